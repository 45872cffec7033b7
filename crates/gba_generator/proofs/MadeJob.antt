-- The generator's job is a job of the language, and its lines are read as that job.
use Rattle.std.proofs.Common.{◌≡◌, ◌≤◌, ◌<◌, ◌^◌, ℕ, ◌+◌, Bool, true, false, ◌&&◌, not, nat_le, List, [], ◌∷◌, ◌++◌, length, codes, refl, sym, ap, subst, ◌∙◌, length-append, append_assoc, le-leb, lit<, lit≤, arith}
use Rattle.std.specs.Prelude.{decimal}
use Rattle.std.specs.List.{All, list_all}
use Rattle.std.specs.Str.{bytes_eq}
use Rattle.std.proofs.lemmas.Bool.{leb-true}
use Rattle.std.proofs.lemmas.Bool.Decides.{nat_tests}
use Rattle.std.proofs.lemmas.Fmt.{decimal_digit}
use Rattle.std.proofs.lemmas.List.{append-nil}
use Rattle.std.proofs.lemmas.List.Elements.{All-cons, All-nil}
use Rattle.gba_text.proofs.Spans.{first_of_all, rest_of_all}
use Rattle.gba_command.specs.Words.{IsOut}
use Rattle.link_node.specs.Delays.{all_delays}
use Rattle.gba_joblog.proofs.Cables.{IsLink, delays-sound}
use Rattle.gba_joblog.proofs.LogAgain.{IsOld, old-again}
use Rattle.gba_joblog.proofs.LogLength.{old-short, old_text}
use Rattle.gba_joblog.proofs.SoundChanges as changes
use Rattle.gba_joblog.specs.Job.{ConsoleJob}
use Rattle.gba_joblog.specs.Cable.{delays_of, table_of}
use Rattle.gba_joblog.specs.Language.{job_of, longest_job}
use Rattle.gba_joblog.specs.LogLaw.{unlined}
use Rattle.gba_joblog.specs.Log.{changes_text, line_of}
use Rattle.gba_joblog.specs.Log as log
use Rattle.gba_joblog.specs.Names.{is_name, is_name_byte, longest_name}
use Rattle.gba_joblog.specs.Outputs.{EachKind}
use Rattle.gba_joblog.specs.Soundness.{AreJobDelays, IsConsole, IsJob, IsOutput}
use Rattle.gba_joblog.specs.declared.outputs.OutKind.TheVariants.{Frames, Samples, Words, State, Save}
use Rattle.gba_generator.specs.Job.{asked, bios_file, console, console_text, job, job_text}
use Rattle.gba_generator.specs.Law.{IsReadAs}

both : (s t : Bool) → s ≡ true → t ≡ true → (s && t) ≡ true
both true t e f = f
both false t e f = absurd cc

all-append : (p : ℕ → Bool) (xs ys : List ℕ) → list_all p xs ≡ true → list_all p ys ≡ true
    → list_all p (xs ++ ys) ≡ true
all-append p [] ys h k = k
all-append p (x ∷ xs) ys h k =
    both (p x) (list_all p (xs ++ ys)) (first_of_all (p x) (list_all p xs) h)
    (all-append p xs ys (rest_of_all (p x) (list_all p xs) h) k)

-- a name with more bytes behind it is a name, as long as it isn't too long
record NameParts (name : List ℕ) : Type 0 where
  some : nat_le 1 (length name) ≡ true
  bytes : list_all is_name_byte name ≡ true

name-parts : (name : List ℕ) → is_name name ≡ true → NameParts name
unfolding is_name
name-parts name h =
    let some = nat_le 1 (length name) in
    let few = nat_le (length name) longest_name in
    let all = list_all is_name_byte name in
    let front : (some && few && all) ≡ true = first_of_all (some && few && all) (not (bytes_eq name (codes "-"))) h in
    record {
      some = first_of_all some few (first_of_all (some && few) all front);
      bytes = rest_of_all (some && few) all front;
    }

and-false : (s : Bool) → (s && false) ≡ false
and-false true = refl
and-false false = refl

longer-is : (name more : List ℕ) → 1 ≤ length name → 1 ≤ length more → bytes_eq (name ++ more) (codes "-") ≡ false
longer-is [] more some also = absurd (omega (arith, some))
longer-is (b ∷ name) [] some also = absurd (omega (arith, also))
longer-is (b ∷ []) (c ∷ more) some also = and-false _
longer-is (b ∷ d ∷ name) (c ∷ more) some also = and-false _

pub name-longer : (name more : List ℕ) → is_name name ≡ true → list_all is_name_byte more ≡ true → 1 ≤ length more
    → length name + length more ≤ 200 → is_name (name ++ more) ≡ true
unfolding is_name
name-longer name more is bytes some few =
    let parts = name-parts name is in
    let sum = length-append name more in
    let long : 1 ≤ length name = leb-true 1 (length name) parts.some in
    let least : nat_le 1 (length (name ++ more)) ≡ true = le-leb 1 (length (name ++ more)) (omega (arith, sum, some)) in
    let most : nat_le (length (name ++ more)) longest_name ≡ true =
    le-leb (length (name ++ more)) longest_name (omega (arith, sum, few)) in
    let all : list_all is_name_byte (name ++ more) ≡ true = all-append is_name_byte name more parts.bytes bytes in
    rw (least, most, all, longer-is name more long some) refl

digit-named : (player : ℕ) → player < 4 → is_name_byte (48 + player) ≡ true
digit-named player few = grind (arith, nat_tests)

bios-named : (out : List ℕ) (player : ℕ) → IsOut out → player < 4 → is_name (bios_file out player) ≡ true
bios-named out player is few =
    let digit : decimal player ≡ (48 + player) ∷ [] = decimal_digit player (omega (arith, few)) in
    let more : List ℕ = codes "." ++ ((48 + player) ∷ codes ".bios") in
    let named : list_all is_name_byte more ≡ true = rw (digit-named player few) refl in
    rw digit (name-longer out more is.0 named (lit≤ tt) (omega (arith, is.1)))

outs-sound : EachKind IsOutput asked
outs-sound Frames = tt
outs-sound Samples = tt
outs-sound Words = tt
outs-sound State = tt
outs-sound Save = tt

console-sound : (out : List ℕ) (player : ℕ) → IsOut out → player < 4 → IsConsole (console out player)
console-sound out player is few = record {
  bios = record { named = bios-named out player is few; stated = tt };
  off = lit< tt;
  lines = record {
    cart = tt;
    save = tt;
    keys = tt;
    changes = changes.none;
    apart = λ none. refl;
    outs = outs-sound;
  };
}

all-sound : (out : List ℕ) → IsOut out
    → All IsConsole (console out 0 ∷ console out 1 ∷ console out 2 ∷ console out 3 ∷ [])
all-sound out is =
    let fourth : List ConsoleJob = console out 3 ∷ [] in
    let third : List ConsoleJob = console out 2 ∷ fourth in
    let second : List ConsoleJob = console out 1 ∷ third in
    All-cons IsConsole (console out 0) second (console-sound out 0 is (lit< tt))
    (All-cons IsConsole (console out 1) third (console-sound out 1 is (lit< tt))
    (All-cons IsConsole (console out 2) fourth (console-sound out 2 is (lit< tt))
    (All-cons IsConsole (console out 3) [] (console-sound out 3 is (lit< tt)) (All-nil IsConsole))))

all-delays : delays_of 512 [] 4 ≡ all_delays 512
unfolding delays_of table_of all_delays
all-delays = refl

pub job-sound : (cycles : ℕ) (out : List ℕ) → 1 ≤ cycles → cycles ≤ 2 ^ 31 → IsOut out → IsJob (job cycles out)
job-sound cycles out some few is = record {
  some_cycles = some;
  few_cycles = omega (arith, few);
  delays = subst (AreJobDelays 4) all-delays (delays-sound 512 [] 4 (lit≤ tt, lit≤ tt) (All-nil IsLink));
  some_consoles = lit≤ tt;
  few_consoles = lit≤ tt;
  each = all-sound out is;
}

console-text : (out : List ℕ) (player : ℕ) → log.console_text player (console out player) ≡ console_text out player
unfolding log.console_text changes_text
console-text out player =
    let bios = line_of (codes "bios") (bios_file out player ∷ []) in
    ap (λ files. line_of (codes "console") (decimal player ∷ []) ++ (files ++ codes "out words\nout state\n"))
    (append-nil bios)

-- the four consoles
abbrev pub consoles : List ℕ → List ConsoleJob
consoles out = console out 0 ∷ console out 1 ∷ console out 2 ∷ console out 3 ∷ []

pub text-is : (cycles : ℕ) (out : List ℕ) → old_text cycles 512 (consoles out) ≡ job_text cycles out
unfolding log.consoles_text
text-is cycles out =
    rw (console-text out 0, console-text out 1, console-text out 2, console-text out 3, append-nil (console_text out 3))
    refl

-- they are on from the start, and save in SRAM
all-old : (out : List ℕ) → All IsOld (consoles out)
all-old out =
    let fourth : List ConsoleJob = console out 3 ∷ [] in
    let third : List ConsoleJob = console out 2 ∷ fourth in
    let second : List ConsoleJob = console out 1 ∷ third in
    All-cons IsOld (console out 0) second (refl, refl) (All-cons IsOld (console out 1) third (refl, refl)
    (All-cons IsOld (console out 2) fourth (refl, refl)
    (All-cons IsOld (console out 3) [] (refl, refl) (All-nil IsOld))))

pub job-read : (cycles : ℕ) (out : List ℕ) → 1 ≤ cycles → cycles ≤ 2 ^ 31 → IsOut out → IsReadAs cycles out
job-read cycles out some few is =
    let again = old-again cycles 512 (consoles out) some few (lit≤ tt) (lit≤ tt) (all-sound out is) (all-old out)
    (lit≤ tt) (lit≤ tt) in
    record {
      again = again.again;
      read = ap job_of (sym (text-is cycles out)) ∙ again.read;
      same = again.same
          ∙ ap (λ delays. unlined (record { cycles = cycles; delays = delays; consoles = consoles out })) all-delays;
    }

pub text-short : (cycles : ℕ) (out : List ℕ) → cycles ≤ 2 ^ 31 → IsOut out → length (job_text cycles out) ≤ longest_job
text-short cycles out few is =
    subst (λ (text : List ℕ). length text ≤ longest_job) (text-is cycles out)
    (old-short cycles 512 (consoles out) few (lit≤ tt) (lit≤ tt) (all-sound out is))

pub name-short : (out : List ℕ) (player : ℕ) → length out ≤ 180 → player < 4 → length (bios_file out player) ≤ 200
name-short out player short few =
    let digit : length (decimal player) ≡ 1 = ap length (decimal_digit player (omega (arith, few))) in
    let tail = length-append (decimal player) (codes ".bios") in
    let whole = length-append out (codes "." ++ (decimal player ++ codes ".bios")) in
    omega (arith, digit, tail, whole, short)

-- the job's lines put together from those of its consoles
regrouped : (cycles delay a b c d : List ℕ)
    → codes "gbalink 1\ncycles " ++ (cycles ++ (codes "\ndelay " ++ (delay
    ++ (codes "\n" ++ (a ++ (b ++ (c ++ (d ++ codes "end\n"))))))))
    ≡ codes "gbalink 1\n" ++ (line_of (codes "cycles") (cycles ∷ []) ++ (line_of (codes "delay") (delay ∷ [])
    ++ ((a ++ (b ++ (c ++ d))) ++ codes "end\n")))
regrouped cycles delay a b c d = simp append_assoc refl

pub lines-joined : (cycles : ℕ) (out a b c d text : List ℕ) → a ≡ console_text out 0 → b ≡ console_text out 1
    → c ≡ console_text out 2 → d ≡ console_text out 3
    → text ≡ codes "gbalink 1\ncycles " ++ (decimal cycles ++ (codes "\ndelay " ++ (decimal 512
    ++ (codes "\n" ++ (a ++ (b ++ (c ++ (d ++ codes "end\n"))))))))
    → text ≡ job_text cycles out
lines-joined cycles out a b c d text one two three four e =
    e ∙ regrouped (decimal cycles) (decimal 512) a b c d ∙ rw (one, two, three, four) refl
