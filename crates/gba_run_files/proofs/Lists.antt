-- Lists of each console's names, job, files and machine, of which some are done and the others left.
use Rattle.std.proofs.Common.{⊎_elim, arith, true, false, ◌≡◌, ℕ, ◌+◌, ◌<◌, ◌≤◌, List, [], ◌∷◌, ◌++◌, ◌∙◌, length, drop, get_or, map, refl, sym, ap}
use Rattle.std.specs.Prelude.{Bool, ◌==◌, Option, Some, option_map, slice_get}
use Rattle.std.proofs.lemmas.Option.{get_or_from_slice_get, slice_get-get_or, slice_get-map, slice_get_cases}
use Rattle.gba_session.specs.Files.{asks_of}
use Rattle.std.specs.List.{flat_map}
use Rattle.std.proofs.lemmas.List.{drop_all, drop_more, get_or-map, length-map}
use Rattle.gba_console.specs.Machine.{Machine}
use Rattle.gba_joblog.specs.Job.{ConsoleJob}
use Rattle.gba_joblog.specs.declared.outputs.OutKind.{OutKind}
use Rattle.gba_joblog.specs.declared.outputs.PerKind.{PerKind}
use Rattle.gba_run_files.specs.Outputs.{console_outputs, outputs_of}
use Rattle.gba_joblog.specs.Views.{console_value}
use Rattle.gba_joblog.specs.declared.job.JobConsole.{JobConsole}
use Rattle.gba_run_files.specs.Views.{names_value}
use Rattle.gba_run_files.specs.declared.names.Names.{Names}
use Rattle.gba_run_files.specs.Pieces.{console_pieces, cut_pieces, piece_if}

-- what the elements of a list give, from a place on
pub flat-more : {X Y : Type 0} (f : X → List Y) (xs : List X) (i : ℕ) (x : X) → i < length xs
    → flat_map f (drop i xs) ≡ f (get_or xs i x) ++ flat_map f (drop (i + 1) xs)
flat-more f xs i x within = ap (flat_map f) (drop_more xs i x within)

pub flat-none : {X Y : Type 0} (f : X → List Y) (xs : List X) (i : ℕ) → length xs ≤ i → flat_map f (drop i xs) ≡ []
flat-none f xs i past = ap (flat_map f) (drop_all i xs past)

-- the outputs of the consoles from a place on
module _ (names : List (PerKind (List ℕ))) (consoles : List ConsoleJob) (files : List (PerKind (List ℕ))) (i : ℕ) where
  pub outputs-more : (n : PerKind (List ℕ)) (c : ConsoleJob) (f : PerKind (List ℕ))
      → i < length names → i < length consoles → i < length files
      → outputs_of (drop i names) (drop i consoles) (drop i files)
      ≡ console_outputs (get_or names i n) (get_or consoles i c) (get_or files i f)
      ++ outputs_of (drop (i + 1) names) (drop (i + 1) consoles) (drop (i + 1) files)
  unfolding outputs_of
  outputs-more n c f a b d = rw (drop_more names i n a, drop_more consoles i c b, drop_more files i f d) refl

  pub outputs-none : length names ≤ i → outputs_of (drop i names) (drop i consoles) (drop i files) ≡ []
  unfolding outputs_of
  outputs-none past = rw (drop_all i names past) refl

-- the same as the program has them
pub outputs-here : (names : List Names) (consoles : List JobConsole) (files : List (PerKind (List ℕ))) (i : ℕ)
    (n : Names) (c : JobConsole) (f : PerKind (List ℕ)) → i < length names → i < length consoles → i < length files
    → n ≡ get_or names i n → c ≡ get_or consoles i c
    → outputs_of (drop i (map names_value names)) (drop i (map console_value consoles)) (drop i files)
    ≡ console_outputs (names_value n) (console_value c) (get_or files i f)
    ++ outputs_of (drop (i + 1) (map names_value names)) (drop (i + 1) (map console_value consoles))
    (drop (i + 1) files)
outputs-here names consoles files i n c f x y z n_is c_is =
    let left = outputs_of (drop (i + 1) (map names_value names)) (drop (i + 1) (map console_value consoles))
    (drop (i + 1) files) in
    outputs-more (map names_value names) (map console_value consoles) files i (names_value n) (console_value c) f
    (omega (arith, x, length-map names names_value)) (omega (arith, y, length-map consoles console_value)) z
    ∙ ap (λ one. console_outputs one (get_or (map console_value consoles) i (console_value c)) (get_or files i f)
    ++ left)
    (get_or-map names_value names i n (names_value n) x ∙ ap names_value (sym n_is))
    ∙ ap (λ one. console_outputs (names_value n) one (get_or files i f) ++ left)
    (get_or-map console_value consoles i c (console_value c) y ∙ ap console_value (sym c_is))

-- the pieces of the consoles from a place on
module _ (kinds : List OutKind) (names : List (PerKind (List ℕ))) (asks : List (PerKind Bool)) (machines : List Machine)
    (i : ℕ) where
  pub pieces-more : (n : PerKind (List ℕ)) (a : PerKind Bool) (m : Machine)
      → i < length names → i < length asks → i < length machines
      → cut_pieces kinds (drop i names) (drop i asks) (drop i machines)
      ≡ console_pieces kinds (get_or names i n) (get_or asks i a) (get_or machines i m)
      ++ cut_pieces kinds (drop (i + 1) names) (drop (i + 1) asks) (drop (i + 1) machines)
  unfolding cut_pieces
  pieces-more n a m x y z = rw (drop_more names i n x, drop_more asks i a y, drop_more machines i m z) refl

  pub pieces-none : length names ≤ i → cut_pieces kinds (drop i names) (drop i asks) (drop i machines) ≡ []
  unfolding cut_pieces
  pieces-none past = rw (drop_all i names past) refl

-- a piece is one append, or none where it is empty
pub piece-none : (name bytes : List ℕ) → (length bytes == 0) ≡ true → piece_if name bytes ≡ []
piece-none name [] empty = refl
piece-none name (byte ∷ bytes) empty = absurd (grind (arith, empty))

pub piece-some : (name bytes : List ℕ) → (length bytes == 0) ≡ false
    → piece_if name bytes ≡ record { name = name; bytes = bytes } ∷ []
piece-some name [] full = absurd (grind (arith, full))
piece-some name (byte ∷ bytes) full = refl

-- ---- what stands at a place

pub machine-at : (ms : List Machine) (k : ℕ) → k < length ms
    → (m : Machine) × (slice_get ms k ≡ Some m) × (m ≡ get_or ms k m)
machine-at ms k within =
    ⊎_elim (λ there. (there.0, there.2, sym there.3)) (λ past. absurd (omega (arith, within, past.0)))
    (slice_get_cases ms k).1

-- what a console is asked for
pub asked-at : (consoles : List JobConsole) (asks : List (PerKind Bool)) (k : ℕ) (c : JobConsole)
    → asks ≡ map asks_of (map console_value consoles) → k < length consoles → c ≡ get_or consoles k c
    → slice_get asks k ≡ Some (asks_of (console_value c))
asked-at consoles asks k c is within here =
    ap (λ (all : List (PerKind Bool)). slice_get all k) is
    ∙ slice_get-map asks_of (map console_value consoles) k
    ∙ ap (option_map asks_of) (slice_get-map console_value consoles k)
    ∙ ap (λ (o : Option JobConsole). option_map asks_of (option_map console_value o))
    (slice_get-get_or consoles k c within)
    ∙ ap (λ (x : JobConsole). Some (asks_of (console_value x))) (sym here)

-- the pieces of the consoles from a place on, as the program has them
pub pieces-here : (kinds : List OutKind) (names : List Names) (consoles : List JobConsole) (asks : List (PerKind Bool))
    (ms : List Machine) (i : ℕ) (n : Names) (c : JobConsole) (m : Machine)
    → i < length names → i < length consoles → i < length ms → n ≡ get_or names i n → c ≡ get_or consoles i c
    → asks ≡ map asks_of (map console_value consoles) → m ≡ get_or ms i m
    → cut_pieces kinds (drop i (map names_value names)) (drop i asks) (drop i ms)
    ≡ console_pieces kinds (names_value n) (asks_of (console_value c)) m
    ++ cut_pieces kinds (drop (i + 1) (map names_value names)) (drop (i + 1) asks) (drop (i + 1) ms)
pieces-here kinds names consoles asks ms i n c m x y z n_is c_is asked m_is =
    let left = cut_pieces kinds (drop (i + 1) (map names_value names)) (drop (i + 1) asks) (drop (i + 1) ms) in
    let a = asks_of (console_value c) in
    let there : i < length asks =
    omega (
      arith,
      y,
      ap length asked,
      length-map (map console_value consoles) asks_of,
      length-map consoles console_value,
    ) in
    let a_is : get_or asks i a ≡ a = get_or_from_slice_get asks i a a (asked-at consoles asks i c asked y c_is) in
    pieces-more kinds (map names_value names) asks ms i (names_value n) a m
    (omega (arith, x, length-map names names_value)) there z
    ∙ ap (λ one. console_pieces kinds one (get_or asks i a) (get_or ms i m) ++ left)
    (get_or-map names_value names i n (names_value n) x ∙ ap names_value (sym n_is))
    ∙ ap (λ one. console_pieces kinds (names_value n) one (get_or ms i m) ++ left) a_is
    ∙ ap (λ one. console_pieces kinds (names_value n) a one ++ left) (sym m_is)
