-- The log of a job is read as the same job.
use Rattle.std.proofs.Common.{◌≡◌, ℕ, ◌+◌, ◌<◌, ◌≤◌, ◌^◌, false, get_or, List, [], ◌∷◌, ◌++◌, length, map, Some, None, Ok, refl, ap, sym, subst, ◌∙◌, lit≤, arith}
use Rattle.std.specs.Prelude.{codes, decimal, unwrap_or}
use Rattle.std.specs.List.{All}
use Rattle.std.proofs.lemmas.List.{append-nil, append_assoc, length-append, length-map, map-append}
use Rattle.std.proofs.lemmas.List.Elements.{All-head, All-tail}
use Rattle.std.proofs.lemmas.Bool.{false≢true}
use Rattle.gba_text.specs.Lines.{lines}
use Rattle.gba_text.proofs.Languages.{answer_of-lines, leads_none, led}
use Rattle.gba_text.specs.Languages.{Leads}
use Rattle.gba_image.specs.declared.backup.Backup.TheVariants.{Sram}
use Rattle.link_node.specs.declared.delays.Delays.{Delays}
use Rattle.gba_joblog.specs.Cable.{all_pairs, delays_of, players_for, usual_delay}
use Rattle.gba_joblog.specs.Draft.{Draft, nothing_said, silent_console}
use Rattle.gba_joblog.specs.Job.{ConsoleJob, WholeJob}
use Rattle.gba_joblog.specs.Language.{job_at_end, job_of, jobs, longest_job, words_say}
use Rattle.gba_joblog.specs.Log.{backup_text, changes_text, console_text, consoles_text, files_text, line_of, links_text, log_text, off_text, outs_text}
use Rattle.gba_joblog.specs.LogLaw.{IsReadAgain, unlined, unlined_console, without_key_file, without_key_files}
use Rattle.gba_joblog.specs.Soundness.{IsConsole, IsJob}
use Rattle.gba_joblog.specs.Statements.{Console, Cycles, Delay, End, Version, arguments, keyword_of, most_cycles, plus_statement, refusal_at}
use Rattle.gba_joblog.specs.declared.draft.JobVersion.{JobVersion}
use Rattle.gba_joblog.specs.declared.draft.JobVersion.TheVariants.{One, Two}
use Rattle.gba_joblog.specs.declared.draft.Place.TheVariants.{Ended, Head}
use Rattle.gba_joblog.proofs.LogLines.{Reads, Top, head, inside, line-reads, number-line, reads-nothing, reads-then}
use Rattle.gba_joblog.proofs.LogLength.{log-short, old-short, old_text}
use Rattle.gba_joblog.proofs.LogLinks.{cable-read, linked}
use Rattle.gba_joblog.proofs.Cables.{delays-again, links_in}
use Rattle.gba_joblog.proofs.LogParts.{CanStand, as_draft, body-read, has_line, said-again}
use Rattle.gba_joblog.proofs.Spelling.{IsLine, IsWord, are_more, are_none}
use Rattle.gba_joblog.proofs.SpelledValues.{number-again, player-again, second-again, version-again}

-- ---- the lines before the first console

version-line : (word : List ℕ) → IsWord word → length word ≤ 1 → IsLine (codes "gbalink") (word ∷ [])
version-line word is short = record {
  keyword = record { some = omega arith; bytes = refl };
  words = are_more word [] is are_none;
  plain = refl;
  short = omega (arith, length-append word [], short);
}

abbrev versioned : JobVersion → Draft
versioned version = record {
  version = version;
  place = Head;
  cycles = None;
  delay = None;
  links = [];
  consoles = [];
  last = silent_console;
}

first-says : words_say nothing_said (codes "gbalink" ∷ codes "1" ∷ []) ≡ Ok (Some (Version One))
unfolding keyword_of refusal_at arguments
first-says = let is = version-again in rw is refl

second-says : words_say nothing_said (codes "gbalink" ∷ codes "2" ∷ []) ≡ Ok (Some (Version Two))
unfolding keyword_of refusal_at arguments
second-says = let is = second-again in rw is refl

version-plus : (n : ℕ) (version : JobVersion) → plus_statement n (Version version) nothing_said ≡ versioned version
unfolding plus_statement
version-plus n version = refl

first-read : Reads 0 nothing_said (line_of (codes "gbalink") (codes "1" ∷ [])) 1 (versioned One)
first-read =
    rw (version-plus 1 One) at (line-reads 0 nothing_said (codes "gbalink") (codes "1" ∷ []) (Version One)
    (version-line (codes "1") (record { some = omega arith; bytes = refl }) (lit≤ tt)) first-says)

second-read : Reads 0 nothing_said (line_of (codes "gbalink") (codes "2" ∷ [])) 1 (versioned Two)
second-read =
    rw (version-plus 1 Two) at (line-reads 0 nothing_said (codes "gbalink") (codes "2" ∷ []) (Version Two)
    (version-line (codes "2") (record { some = omega arith; bytes = refl }) (lit≤ tt)) second-says)

abbrev timed : JobVersion → ℕ → Top
timed version t = record { version = version; cycles = t; delay = None; links = [] }

cycles-says : (version : JobVersion) (t : ℕ) → 1 ≤ t → t ≤ most_cycles version → t < 2 ^ 64
    → words_say (versioned version) (codes "cycles" ∷ decimal t ∷ []) ≡ Ok (Some (Cycles t))
unfolding keyword_of refusal_at arguments
cycles-says version t low high small = let is = number-again 1 (most_cycles version) t [] low high small in rw is refl

cycles-plus : (n : ℕ) (version : JobVersion) (t : ℕ)
    → plus_statement n (Cycles t) (versioned version) ≡ head (timed version t)
unfolding plus_statement
cycles-plus n version t = refl

cycles-read : (version : JobVersion) (t : ℕ) → 1 ≤ t → t ≤ most_cycles version → t < 2 ^ 64
    → Reads 1 (versioned version) (line_of (codes "cycles") (decimal t ∷ [])) 2 (head (timed version t))
cycles-read version t low high small =
    rw (cycles-plus 2 version t) at (line-reads 1 (versioned version) (codes "cycles") (decimal t ∷ []) (Cycles t)
    (number-line (codes "cycles") t (record { some = omega arith; bytes = refl }) refl (lit≤ tt) small)
    (cycles-says version t low high small))

-- after a line of the delay of all pairs
abbrev delayed : ℕ → ℕ → Top
delayed t q = record { version = One; cycles = t; delay = Some q; links = [] }

delay-says : (t q : ℕ) → 1 ≤ q → q ≤ 1024
    → words_say (head (timed One t)) (codes "delay" ∷ decimal q ∷ []) ≡ Ok (Some (Delay q))
unfolding keyword_of refusal_at arguments
delay-says t q low high = let is = number-again 1 1024 q [] low high (omega arith) in rw is refl

delay-plus : (n t q : ℕ) → plus_statement n (Delay q) (head (timed One t)) ≡ head (delayed t q)
unfolding plus_statement
delay-plus n t q = refl

delay-read : (t q : ℕ) → 1 ≤ q → q ≤ 1024
    → Reads 2 (head (timed One t)) (line_of (codes "delay") (decimal q ∷ [])) 3 (head (delayed t q))
delay-read t q low high =
    rw (delay-plus 3 t q) at (line-reads 2 (head (timed One t)) (codes "delay") (decimal q ∷ []) (Delay q)
    (number-line (codes "delay") q (record { some = omega arith; bytes = refl }) refl (lit≤ tt) (omega (arith, high)))
    (delay-says t q low high))

-- ---- consoles

console-line : (player : ℕ) → player ≤ 3 → IsLine (codes "console") (decimal player ∷ [])
console-line player few =
    number-line (codes "console") player (record { some = omega arith; bytes = refl }) refl (lit≤ tt) (omega arith)

opening-says : (top : Top) → words_say (head top) (codes "console" ∷ decimal 0 ∷ []) ≡ Ok (Some (Console 0))
unfolding keyword_of refusal_at arguments
opening-says top = let is = player-again 0 [] (omega arith) in rw is refl

opening-plus : (n : ℕ) (top : Top) → plus_statement n (Console 0) (head top) ≡ inside top [] silent_console
unfolding plus_statement
opening-plus n top = refl

next-says : (top : Top) (whole : List ConsoleJob) (last : ConsoleJob) → length whole + 1 ≤ 3
    → words_say (inside top whole (as_draft last)) (codes "console" ∷ decimal (length whole + 1) ∷ [])
    ≡ Ok (Some (Console (length whole + 1)))
unfolding keyword_of refusal_at arguments
next-says top whole last few =
    let is = player-again (length whole + 1) [] few in
    rw is refl

next-plus : (n : ℕ) (top : Top) (player : ℕ) (whole : List ConsoleJob) (last : ConsoleJob)
    → plus_statement n (Console player) (inside top whole (as_draft last))
    ≡ inside top (whole ++ last ∷ []) silent_console
unfolding plus_statement
next-plus n top player whole last = rw said-again refl

console_text-is : (player : ℕ) (console : ConsoleJob)
    → console_text player console ≡ line_of (codes "console") (decimal player ∷ [])
    ++ (files_text console
    ++ (backup_text console.backup ++ (off_text console.off ++ (changes_text console.changes ++ outs_text console))))
unfolding console_text
console_text-is player console = refl

-- the consoles after the first ones, which are read but for their lines and key files
record ConsolesRead (n : ℕ) (top : Top) (whole : List ConsoleJob) (last : ConsoleJob)
    (consoles : List ConsoleJob) : Type 0 where
  after : ℕ
  before : List ConsoleJob
  latest : ConsoleJob
  same : map unlined_console (before ++ latest ∷ [])
      ≡ map unlined_console (whole ++ last ∷ []) ++ map unlined_console (map without_key_file consoles)
  reads : Reads n (inside top whole (as_draft last)) (consoles_text (length whole + 1) consoles) after
      (inside top before (as_draft latest))

consoles-read : (n : ℕ) (top : Top) (whole : List ConsoleJob) (last : ConsoleJob) (consoles : List ConsoleJob)
    → All IsConsole consoles → All (CanStand top.version) consoles → length whole + 1 + length consoles ≤ 4
    → ConsolesRead n top whole last consoles
unfolding consoles_text
consoles-read n top whole last [] sound can few = record {
  after = n;
  before = whole;
  latest = last;
  same = sym (append-nil (map unlined_console (whole ++ last ∷ [])));
  reads = reads-nothing n (inside top whole (as_draft last));
}
consoles-read n top whole last (console ∷ consoles) sound can few =
    let player = length whole + 1 in
    let opened =
    line-reads n (inside top whole (as_draft last)) (codes "console") (decimal player ∷ []) (Console player)
    (console-line player (omega arith)) (next-says top whole last (omega arith)) in
    let start = rw (next-plus (n + 1) top player whole last) at opened in
    let body = body-read (n + 1) top (whole ++ last ∷ []) console (All-head IsConsole console consoles sound)
    (All-head (CanStand top.version) console consoles can) in
    let long : length (whole ++ last ∷ []) ≡ length whole + 1 = length-append whole (last ∷ []) in
    let rest = consoles-read body.after top (whole ++ last ∷ []) body.last consoles
    (All-tail IsConsole console consoles sound) (All-tail (CanStand top.version) console consoles can)
    (omega (arith, long)) in
    let P : ℕ → Type 0 =
    λ k. Reads body.after (inside top (whole ++ last ∷ []) (as_draft body.last)) (consoles_text (k + 1) consoles)
    rest.after (inside top rest.before (as_draft rest.latest)) in
    let reads : P (length whole + 1) = subst P long rest.reads in
    record {
      after = rest.after;
      before = rest.before;
      latest = rest.latest;
      same = rest.same ∙ ap (λ front. front ++ map unlined_console (map without_key_file consoles))
          (map-append unlined_console (whole ++ last ∷ []) (body.last ∷ []))
          ∙ append_assoc (map unlined_console (whole ++ last ∷ [])) (unlined_console body.last ∷ [])
          (map unlined_console (map without_key_file consoles))
          ∙ ap (λ c. map unlined_console (whole ++ last ∷ []) ++ c
          ∷ map unlined_console (map without_key_file consoles)) body.same;
      reads = reads-then _ _ _ _ _ _ (console_text player console) _
          (rw console_text-is
          (reads-then _ _ _ _ _ _ (line_of (codes "console") (decimal player ∷ [])) _ start body.reads))
          reads;
    }

-- the consoles of a job
record AllRead (n : ℕ) (top : Top) (consoles : List ConsoleJob) : Type 0 where
  after : ℕ
  before : List ConsoleJob
  latest : ConsoleJob
  same : map unlined_console (before ++ latest ∷ []) ≡ map unlined_console (map without_key_file consoles)
  reads : Reads n (head top) (consoles_text 0 consoles) after (inside top before (as_draft latest))

all-read : (n : ℕ) (top : Top) (consoles : List ConsoleJob) → All IsConsole consoles
    → All (CanStand top.version) consoles → 1 ≤ length consoles
    → length consoles ≤ 4 → AllRead n top consoles
unfolding consoles_text
all-read n top [] sound can some few = absurd (omega arith)
all-read n top (console ∷ consoles) sound can some few =
    let opened = line-reads n (head top) (codes "console") (decimal 0 ∷ []) (Console 0) (console-line 0 (omega arith))
    (opening-says top) in
    let start = rw (opening-plus (n + 1) top) at opened in
    let body = body-read (n + 1) top [] console (All-head IsConsole console consoles sound)
    (All-head (CanStand top.version) console consoles can) in
    let rest = consoles-read body.after top [] body.last consoles (All-tail IsConsole console consoles sound)
    (All-tail (CanStand top.version) console consoles can) (omega arith) in
    record {
      after = rest.after;
      before = rest.before;
      latest = rest.latest;
      same = rest.same ∙ ap (λ c. c ∷ map unlined_console (map without_key_file consoles)) body.same;
      reads = reads-then _ _ _ _ _ _ (console_text 0 console) _
          (rw console_text-is (reads-then _ _ _ _ _ _ (line_of (codes "console") (decimal 0 ∷ [])) _ start body.reads))
          rest.reads;
    }

-- ---- the last line

end-line : IsLine (codes "end") []
end-line =
    record { keyword = record { some = omega arith; bytes = refl }; words = are_none; plain = refl; short = lit≤ tt }

end-says : (top : Top) (whole : List ConsoleJob) (last : ConsoleJob)
    → words_say (inside top whole (as_draft last)) (codes "end" ∷ []) ≡ Ok (Some End)
unfolding keyword_of refusal_at arguments
end-says top whole last = refl

abbrev ended : Top → List ConsoleJob → Draft
ended top whole = record {
  version = top.version;
  place = Ended;
  cycles = Some top.cycles;
  delay = top.delay;
  links = top.links;
  consoles = whole;
  last = silent_console;
}

end-plus : (n : ℕ) (top : Top) (whole : List ConsoleJob) (last : ConsoleJob)
    → plus_statement n End (inside top whole (as_draft last)) ≡ ended top (whole ++ last ∷ [])
unfolding plus_statement
end-plus n top whole last = rw said-again refl

-- what is said at the end
abbrev said : Top → List ConsoleJob → WholeJob
said top whole = record {
  cycles = top.cycles;
  delays = delays_of (unwrap_or top.delay usual_delay) top.links (players_for (length whole));
  consoles = whole;
}

at-end : (n : ℕ) (top : Top) (whole : List ConsoleJob) → job_at_end n (ended top whole) ≡ Ok (said top whole)
unfolding job_at_end
at-end n top whole = refl

-- the lines from the first console on
record RestRead (n : ℕ) (top : Top) (consoles : List ConsoleJob) : Type 0 where
  after : ℕ
  whole : List ConsoleJob
  same : map unlined_console whole ≡ map unlined_console (map without_key_file consoles)
  reads : Reads n (head top) (consoles_text 0 consoles ++ line_of (codes "end") []) after (ended top whole)

rest-read : (n : ℕ) (top : Top) (consoles : List ConsoleJob) → All IsConsole consoles
    → All (CanStand top.version) consoles → 1 ≤ length consoles → length consoles ≤ 4 → RestRead n top consoles
rest-read n top consoles sound can some few =
    let all = all-read n top consoles sound can some few in
    let last =
    rw (end-plus (all.after + 1) top all.before all.latest)
    at (line-reads all.after (inside top all.before (as_draft all.latest))
    (codes "end") [] End end-line (end-says top all.before all.latest)) in
    record {
      after = all.after + 1;
      whole = all.before ++ all.latest ∷ [];
      same = all.same;
      reads = reads-then _ _ _ _ _ _ (consoles_text 0 consoles) (line_of (codes "end") []) all.reads last;
    }

-- ---- the whole text

lines-none : lines [] ≡ []
unfolding lines
lines-none = refl

leads-text : (text : List ℕ) (n : ℕ) (e : Draft) → Reads 0 nothing_said text n e
    → Leads jobs 0 nothing_said (lines text) e
leads-text text n e read =
    let none : Leads jobs n e (lines []) e = rw lines-none (leads_none jobs n e) in
    subst (λ all. Leads jobs 0 nothing_said (lines all) e) (append-nil text) (read.goes [] e none)

text-again : (text : List ℕ) (n : ℕ) (top : Top) (whole : List ConsoleJob) → length text ≤ longest_job
    → Reads 0 nothing_said text n (ended top whole) → job_of text ≡ Ok (said top whole)
unfolding job_of
text-again text n top whole short read =
    let end = led jobs 0 nothing_said (ended top whole) (lines text) (leads-text text n (ended top whole) read) in
    answer_of-lines jobs text (Ok (said top whole)) short (end ∙ at-end (0 + length (lines text)) top whole)

same-long : (whole consoles : List ConsoleJob)
    → map unlined_console whole ≡ map unlined_console (map without_key_file consoles) → length whole ≡ length consoles
same-long whole consoles same =
    omega (
      arith,
      length-map whole unlined_console,
      length-map (map without_key_file consoles) unlined_console,
      length-map consoles without_key_file,
      ap length same,
    )

-- a job with these consoles and these delays
abbrev job_of_delays : ℕ → Delays → List ConsoleJob → WholeJob
job_of_delays t delays consoles = record { cycles = t; delays = delays; consoles = consoles }

same-said : (top : Top) (whole consoles : List ConsoleJob) (delays : Delays)
    → map unlined_console whole ≡ map unlined_console (map without_key_file consoles)
    → delays_of (unwrap_or top.delay usual_delay) top.links (players_for (length consoles)) ≡ delays
    → unlined (said top whole) ≡ unlined (without_key_files (job_of_delays top.cycles delays consoles))
same-said top whole consoles delays same are =
    let long = same-long whole consoles same in
    let cable = ap (λ n. delays_of (unwrap_or top.delay usual_delay) top.links (players_for n)) long ∙ are in
    ap (λ d. record { cycles = top.cycles; delays = d; consoles = map unlined_console whole }) cable
    ∙ ap (λ cs. record { cycles = top.cycles; delays = delays; consoles = cs }) same

-- the log of a sound job is read as the same job, but for the numbers of its lines and its key files
pub job-again : (job : WholeJob) → IsJob job → IsReadAgain job
unfolding log_text
job-again job sound =
    let t = job.cycles in
    let n = length job.consoles in
    let cycles = cycles-read Two t sound.some_cycles sound.few_cycles (omega (arith, sound.few_cycles)) in
    let cable = cable-read 2 t n job.delays sound.some_consoles sound.few_consoles sound.delays.within in
    let top = linked t (links_in (players_for n) job.delays all_pairs) in
    let rest =
    rest-read cable.after top job.consoles sound.each (λ i d lt. record { off = λ some. refl; backup = λ some. refl })
    sound.some_consoles sound.few_consoles in
    let reads : Reads 0 nothing_said (log_text job) rest.after (ended top rest.whole) =
    reads-then _ _ _ _ _ _ (line_of (codes "gbalink") (codes "2" ∷ [])) _ second-read
    (reads-then _ _ _ _ _ _ (line_of (codes "cycles") (decimal t ∷ [])) _ cycles
    (reads-then _ _ _ _ _ _ (links_text (players_for n) job.delays) _ cable.reads rest.reads)) in
    record {
      again = said top rest.whole;
      read = text-again (log_text job) rest.after top rest.whole (log-short job sound) reads;
      same = same-said top rest.whole job.consoles job.delays rest.same
          (delays-again n job.delays sound.some_consoles sound.few_consoles sound.delays);
    }

-- a console of which version 1 can say all
abbrev pub IsOld : ConsoleJob → Type 0
IsOld console = (console.off ≡ 0) × (console.backup ≡ Sram)

old-stands : (console : ConsoleJob) → IsOld console → CanStand One console
old-stands console old = record {
  off = λ later. absurd (omega (arith, old.0, later));
  backup = λ has. let none : has_line console.backup ≡ false = rw old.1 refl in absurd (false≢true (sym none ∙ has));
}

-- a text of version 1 is read as its job, but for the numbers of its lines and its key files
pub record IsOldAgain (t q : ℕ) (consoles : List ConsoleJob) : Type 0 where
  pub again : WholeJob
  pub read : job_of (old_text t q consoles) ≡ Ok again
  pub same : unlined again
      ≡ unlined (without_key_files (job_of_delays t (delays_of q [] (players_for (length consoles))) consoles))

pub old-again : (t q : ℕ) (consoles : List ConsoleJob) → 1 ≤ t → t ≤ 2 ^ 31 → 1 ≤ q → q ≤ 1024 → All IsConsole consoles
    → All IsOld consoles → 1 ≤ length consoles → length consoles ≤ 4 → IsOldAgain t q consoles
old-again t q consoles low high least most sound old some few =
    let top = delayed t q in
    let can : All (CanStand One) consoles = λ i d lt. old-stands (get_or consoles i d) (old i d lt) in
    let rest = rest-read 3 top consoles sound can some few in
    let reads : Reads 0 nothing_said (old_text t q consoles) rest.after (ended top rest.whole) =
    reads-then _ _ _ _ _ _ (line_of (codes "gbalink") (codes "1" ∷ [])) _ first-read
    (reads-then _ _ _ _ _ _ (line_of (codes "cycles") (decimal t ∷ [])) _
    (cycles-read One t low high (omega (arith, high)))
    (reads-then _ _ _ _ _ _ (line_of (codes "delay") (decimal q ∷ [])) _ (delay-read t q least most) rest.reads)) in
    record {
      again = said top rest.whole;
      read =
          text-again (old_text t q consoles) rest.after top rest.whole
          (old-short t q consoles high most few sound) reads;
      same = same-said top rest.whole consoles (delays_of q [] (players_for (length consoles))) rest.same refl;
    }
