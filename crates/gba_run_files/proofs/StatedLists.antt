-- Consoles whose outputs' digests are stated, one after another.
use Rattle.std.proofs.Common.{if◌then◌else◌, ◌≡◌, ◌≤◌, ◌<◌, ℕ, zero, suc, ◌+◌, List, [], ◌∷◌, ◌++◌, ◌∙◌, length, map, take, drop, get_or, Option, Some, None, refl, sym, ap, arith, append_assoc}
use Rattle.std.specs.Prelude.{is_some, slice_get, slice_set, option_map, Bool}
use Rattle.std.proofs.lemmas.Grind.{drop_more_same}
use Rattle.std.proofs.lemmas.List.{append-nil, drop-set-lt, drop_all, drop_more, length-set, take_all, take_more_set}
use Rattle.std.proofs.lemmas.Option.{slice_get-get_or, slice_get-map}
use Rattle.gba_command.specs.Cause.{Cause}
use Rattle.gba_console.specs.Machine.{Machine}
use Rattle.gba_inputs.specs.Filled.{with_outputs}
use Rattle.gba_joblog.specs.Job.{ConsoleJob}
use Rattle.gba_joblog.specs.Outputs.{at_kind, per_kind, with_kind}
use Rattle.gba_joblog.specs.Statements.{asks_for, output_of}
use Rattle.gba_joblog.specs.declared.outputs.OutKind.{OutKind}
use Rattle.gba_joblog.specs.declared.outputs.PerKind.{PerKind}
use Rattle.gba_joblog.proofs.EachKind.{all_with, at-per_kind}
use Rattle.gba_joblog.specs.declared.job.OutLine.{OutLine}
use Rattle.gba_session.specs.Files.{all_files, asks_of, files_of}
use Rattle.gba_run_files.specs.Outputs.{all_outs, console_difference, difference_of, first_differs, kind_stated, or_later, output_differs, outs_of, stated_out}

-- a console is asked for the same outputs once their digests are stated
pub asked-same : (asked : Option OutLine) (bytes : List ℕ) → is_some (stated_out asked bytes) ≡ is_some asked
asked-same None bytes = refl
asked-same (Some line) bytes = refl

-- ---- what isn't asked for needs no bytes

pub stated-if : (asked : Option OutLine) (bytes : List ℕ) (ask : Bool) → ask ≡ is_some asked
    → stated_out asked (if ask then bytes else []) ≡ stated_out asked bytes
stated-if None bytes ask is = refl
stated-if (Some line) bytes ask is = rw is refl

-- of a console that is asked for so much each kind is asked for just where it has a line
pub asked-only : (all : List (PerKind Bool)) (k : ℕ) (asks : PerKind Bool) (console : ConsoleJob) (kind : OutKind)
    → slice_get all k ≡ Some asks → slice_get all k ≡ Some (asks_of console)
    → at_kind asks kind ≡ is_some (output_of console kind)
asked-only all k asks console kind is said =
    let same : asks ≡ asks_of console = cc in
    ap (λ (one : PerKind Bool). at_kind one kind) same ∙ at-per_kind (asks_for console) kind

pub differs-if : (name : List ℕ) (asked : Option OutLine) (bytes : List ℕ) (ask : Bool) → ask ≡ is_some asked
    → output_differs name asked (if ask then bytes else []) ≡ output_differs name asked bytes
differs-if name None bytes ask is = refl
differs-if name (Some line) bytes ask is = rw is refl

pub all-files-get : (asks : List (PerKind Bool)) (ms : List Machine) (k : ℕ) (a : PerKind Bool) (m : Machine)
    (f : PerKind (List ℕ)) → k < length asks → k < length ms
    → get_or (all_files asks ms) k f ≡ files_of (get_or asks k a) (get_or ms k m)
unfolding all_files
all-files-get [] ms k a m f x y = absurd (omega (arith, x))
all-files-get (b ∷ asks) [] k a m f x y = absurd (omega (arith, y))
all-files-get (b ∷ asks) (n ∷ ms) zero a m f x y = refl
all-files-get (b ∷ asks) (n ∷ ms) (suc k) a m f x y =
    all-files-get asks ms k a m f (omega (arith, x)) (omega (arith, y))

-- ---- one console after another

-- the consoles before this place are stated, and the others are as they were
pub record Stating (names files : List (PerKind (List ℕ))) (old : List ConsoleJob) (cause : Option Cause)
    (now : List ConsoleJob) (i : ℕ) : Type 0 where
  pub stated : take i now ++ with_outputs (drop i now) (all_outs (drop i now) (drop i files))
      ≡ with_outputs old (all_outs old files)
  pub told : or_later cause (difference_of (drop i names) (drop i now) (drop i files)) ≡ difference_of names old files
  pub left : drop i now ≡ drop i old
  pub many : length now ≡ length old

pub stating-first : (names files : List (PerKind (List ℕ))) (old : List ConsoleJob) → Stating names files old None old 0
stating-first names files old = record { stated = refl; told = refl; left = refl; many = refl }

difference-cons : (n : PerKind (List ℕ)) (c : ConsoleJob) (f : PerKind (List ℕ)) (ns : List (PerKind (List ℕ)))
    (cs : List ConsoleJob) (fs : List (PerKind (List ℕ)))
    → difference_of (n ∷ ns) (c ∷ cs) (f ∷ fs) ≡ or_later (console_difference n c f) (difference_of ns cs fs)
unfolding difference_of
difference-cons n c f ns cs fs = refl

stated-cons : (c : ConsoleJob) (f : PerKind (List ℕ)) (cs : List ConsoleJob) (fs : List (PerKind (List ℕ)))
    → with_outputs (c ∷ cs) (all_outs (c ∷ cs) (f ∷ fs))
    ≡ record c { outs = outs_of c f } ∷ with_outputs cs (all_outs cs fs)
unfolding with_outputs all_outs
stated-cons c f cs fs = refl

no-difference : (cs : List ConsoleJob) (fs : List (PerKind (List ℕ))) → difference_of [] cs fs ≡ None
unfolding difference_of
no-difference cs fs = refl

no-stated : (fs : List (PerKind (List ℕ))) → with_outputs [] (all_outs [] fs) ≡ []
unfolding with_outputs all_outs
no-stated fs = refl

later-joined : (a b c : Option Cause) → or_later (or_later a b) c ≡ or_later a (or_later b c)
later-joined None b c = refl
later-joined (Some x) b c = refl

pub later-none : (a : Option Cause) → or_later a None ≡ a
later-none None = refl
later-none (Some x) = refl

heads : {X : Type 0} (x y : X) (xs ys : List X) → x ∷ xs ≡ y ∷ ys → x ≡ y
heads x y xs ys h = cc

module _ (names files : List (PerKind (List ℕ))) (old : List ConsoleJob) (cause : Option Cause) (now : List ConsoleJob)
    (i : ℕ) (h : Stating names files old cause now i) where
  -- the console at the place is as it was
  pub same-here : (c : ConsoleJob) → i < length now → get_or now i c ≡ get_or old i c
  same-here c within =
      heads (get_or now i c) (get_or old i c) (drop (i + 1) now) (drop (i + 1) old)
      (sym (drop_more now i c within) ∙ h.left ∙ drop_more old i c (omega (arith, within, h.many)))

  -- what it is asked for
  pub asked-here : (asks : List (PerKind Bool)) (c : ConsoleJob) → asks ≡ map asks_of old → i < length now
      → c ≡ get_or now i c → slice_get asks i ≡ Some (asks_of c)
  asked-here asks c is within here =
      ap (λ (all : List (PerKind Bool)). slice_get all i) is ∙ slice_get-map asks_of old i
      ∙ ap (option_map asks_of) (slice_get-get_or old i c (omega (arith, within, h.many)))
      ∙ ap (λ (x : ConsoleJob). Some (asks_of x)) (sym (same-here c within) ∙ sym here)

  pub stating-more : (n f : PerKind (List ℕ)) (c later : ConsoleJob) (told next : Option Cause)
      → i < length now → i < length names → i < length files
      → n ≡ get_or names i n → f ≡ get_or files i f → c ≡ get_or now i c
      → later ≡ record c { outs = outs_of c f } → told ≡ console_difference n c f → next ≡ or_later cause told
      → Stating names files old next (slice_set now i later) (i + 1)
  stating-more n f c later told next within x y n_is f_is c_is said tells joined =
      let ns = drop (i + 1) names in
      let fs = drop (i + 1) files in
      let cs = drop (i + 1) now in
      let front = take_more_set now i later within in
      let rest = drop-set-lt (i + 1) now i later (omega arith) in
      let names_are : drop i names ≡ n ∷ ns = drop_more names i n x ∙ ap (λ y. y ∷ ns) (sym n_is) in
      let files_are : drop i files ≡ f ∷ fs = drop_more files i f y ∙ ap (λ y. y ∷ fs) (sym f_is) in
      let now_is : drop i now ≡ c ∷ cs = drop_more now i c within ∙ ap (λ y. y ∷ cs) (sym c_is) in
      let left_stated = with_outputs cs (all_outs cs fs) in
      let was_stated : take i now ++ (record c { outs = outs_of c f } ∷ left_stated)
      ≡ with_outputs old (all_outs old files) =
      ap (λ xs. take i now ++ xs) (sym (stated-cons c f cs fs))
      ∙ ap (λ xs. take i now ++ with_outputs xs (all_outs xs (f ∷ fs))) (sym now_is)
      ∙ ap (λ xs. take i now ++ with_outputs (drop i now) (all_outs (drop i now) xs)) (sym files_are) ∙ h.stated in
      let was_told : or_later cause (or_later (console_difference n c f) (difference_of ns cs fs))
      ≡ difference_of names old files =
      ap (or_later cause) (sym (difference-cons n c f ns cs fs))
      ∙ ap (λ xs. or_later cause (difference_of (n ∷ ns) xs (f ∷ fs))) (sym now_is)
      ∙ ap (λ xs. or_later cause (difference_of (n ∷ ns) (drop i now) xs)) (sym files_are)
      ∙ ap (λ xs. or_later cause (difference_of xs (drop i now) (drop i files))) (sym names_are) ∙ h.told in
      record {
        stated = rw (front, rest) (append_assoc (take i now) (later ∷ []) left_stated
            ∙ ap (λ (x : ConsoleJob). take i now ++ x ∷ left_stated) said ∙ was_stated);
        told = rw rest (ap (λ x. or_later x (difference_of ns cs fs)) joined
            ∙ later-joined cause told (difference_of ns cs fs)
            ∙ ap (λ x. or_later cause (or_later x (difference_of ns cs fs))) tells ∙ was_told);
        left = rest ∙ drop_more_same now old i h.left;
        many = length-set now i later ∙ h.many;
      }

  pub stating-stated : length now ≤ i → now ≡ with_outputs old (all_outs old files)
  stating-stated past =
      let all : take i now ≡ now = take_all i now past in
      let none : drop i now ≡ [] = drop_all i now past in
      sym (append-nil now) ∙ ap (λ xs. now ++ xs) (sym (no-stated (drop i files)))
      ∙ ap (λ xs. now ++ with_outputs xs (all_outs xs (drop i files))) (sym none)
      ∙ ap (λ xs. xs ++ with_outputs (drop i now) (all_outs (drop i now) (drop i files))) (sym all) ∙ h.stated

  pub stating-told : length names ≤ i → cause ≡ difference_of names old files
  stating-told past =
      let none : drop i names ≡ [] = drop_all i names past in
      sym (later-none cause) ∙ ap (or_later cause) (sym (no-difference (drop i now) (drop i files)))
      ∙ ap (λ xs. or_later cause (difference_of xs (drop i now) (drop i files))) (sym none) ∙ h.told

-- ---- the kinds of one console

-- the line of one kind more is stated
pub one-stated : (console : ConsoleJob) (files : PerKind (List ℕ)) (kind : OutKind) (kinds : List OutKind)
    (outs new : PerKind (Option OutLine)) (out : Option OutLine) → out ≡ kind_stated console files kind
    → new ≡ with_kind kind out outs
    → all_with (kind ∷ kinds) (outs_of console files) outs ≡ all_with kinds (outs_of console files) new
unfolding outs_of
one-stated console files kind kinds outs new out is put =
    ap (λ one. all_with kinds (per_kind (kind_stated console files)) (with_kind kind one outs))
    (at-per_kind (kind_stated console files) kind ∙ sym is)
    ∙ ap (all_with kinds (per_kind (kind_stated console files))) (sym put)

-- the digest of one kind more is compared
pub one-compared : (differs : OutKind → Option Cause) (kind : OutKind) (kinds : List OutKind)
    (found told new : Option Cause) → told ≡ differs kind → new ≡ or_later found told
    → or_later found (first_differs differs (kind ∷ kinds)) ≡ or_later new (first_differs differs kinds)
one-compared differs kind kinds found told new is later =
    ap (λ one. or_later found (or_later one (first_differs differs kinds))) (sym is)
    ∙ sym (later-joined found told (first_differs differs kinds))
    ∙ ap (λ cause. or_later cause (first_differs differs kinds)) (sym later)
