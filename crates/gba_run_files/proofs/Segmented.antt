-- The pieces of a run, segment by segment.
use Rattle.std.proofs.Common.{subst, ◌≡◌, ℕ, zero, suc, ◌+◌, ◌-◌, ◌*◌, ◌<◌, ◌≤◌, ◌∙◌, Bool, true, false, not, nat_lt, min, List, [], ◌∷◌, ◌++◌, length, map, Option, None, Some, IfSome, option_map, refl, sym, ap, arith}
use Rattle.std.proofs.lemmas.Bool.Decides.{nat_tests}
use Rattle.gba_console.specs.Machine.{Machine, forgotten}
use Rattle.gba_joblog.specs.declared.outputs.PerKind.{PerKind}
use Rattle.gba_session.specs.Session.{Consoles, advanced, is_over, resumed, segment_cut, segment_cycles, whole_cut}
use Rattle.gba_run_files.specs.Pieces.{console_pieces, cut_pieces, growing_kinds, lasting_kinds, later_segments, left_pieces, run_pieces, segment_pieces}
use Rattle.gba_run_files.specs.Ready.{IsLast, IsReady, IsSegmentBefore}
use Rattle.gba_run_files.specs.Written.{files_at}
use Rattle.gba_output.specs.StateFile.{save_file, state_file}
use Rattle.gba_snapshot.proofs.Forgetting.{state-forgotten}
use Rattle.gba_session.proofs.Advancing.{until-many}
use Rattle.gba_session.proofs.Consoles.{files-long}
use Rattle.gba_session.specs.Files.{asks_of}
use Rattle.gba_session.specs.Start.{run_until}
use Rattle.link_order.specs.Cut.{Cut}
use Rattle.gba_joblog.specs.Job.{WholeJob}
use Rattle.std.proofs.lemmas.List.{length-map}

-- a run that is over has no segment left
pub over-none : (most : ℕ) (names : List (PerKind (List ℕ))) (s : Consoles) → is_over s ≡ true
    → segment_pieces most names s ≡ []
unfolding segment_pieces
over-none zero names s over = refl
over-none (suc most) names s over = rw over refl

-- one that isn't over has the next one and those behind it
pub next-segment : (most : ℕ) (names : List (PerKind (List ℕ))) (s : Consoles) → is_over s ≡ false
    → segment_pieces (suc most) names s
    ≡ cut_pieces growing_kinds names s.asks (segment_cut (advanced s)).consoles
    ++ segment_pieces most names (advanced s)
unfolding segment_pieces
next-segment most names s left = rw left refl

early : (a b : ℕ) → a < b → nat_lt a b ≡ true
early a b less = grind (arith, nat_tests, less)

not-over : (a b : ℕ) → a < b → not (nat_lt a b) ≡ false
not-over a b less = grind (arith, nat_tests, less)

left-is : (a b : ℕ) → not (nat_lt a b) ≡ false → a < b
left-is a b left = grind (arith, nat_tests, left)

-- the pieces of a run of which no segment is run yet
pub first-pieces : (names : List (PerKind (List ℕ))) (s : Consoles) → s.to < s.until
    → run_pieces names s
    ≡ left_pieces names (advanced s) ++ cut_pieces lasting_kinds names s.asks (whole_cut s).consoles
unfolding segment_pieces
first-pieces names s before = rw (early s.to s.until before) refl

-- what a segment leaves as it was
pub record IsAdvanced (s : Consoles) (next : Consoles) : Type 0 where
  pub start : next.start ≡ s.start
  pub until : next.until ≡ s.until
  pub asks : next.asks ≡ s.asks

pub advances : (s : Consoles) → IsAdvanced s (advanced s)
advances s = by (nat_lt s.to s.until) refl where
  by : (t : Bool) → nat_lt s.to s.until ≡ t → IsAdvanced s (advanced s)
  by true is = rw is (record { start = refl; until = refl; asks = refl })
  by false is = rw is (record { start = refl; until = refl; asks = refl })

-- how far a run has come with so many segments behind its first
abbrev pub HasCome : ℕ → Consoles → Type 0
HasCome i s = min s.until ((i + 1) * segment_cycles) ≤ s.to

pub comes-first : (s : Consoles) → min s.until segment_cycles ≤ s.to → HasCome 0 s
comes-first s come = omega (arith, come)

pub comes-next : (i : ℕ) (s : Consoles) → is_over s ≡ false → HasCome i s → HasCome (i + 1) (advanced s)
comes-next i s left come =
    let before : s.to < s.until = left-is s.to s.until left in
    rw (early s.to s.until before) (omega (arith, before, come))

pub comes-over : (i : ℕ) (s : Consoles) → later_segments s ≤ i → HasCome i s → is_over s ≡ true
comes-over i s many come =
    let past : s.until ≤ s.to = omega (arith, many, come) in
    grind (arith, nat_tests, past)

-- the next segment of those that are left
pub next-at : (n i : ℕ) (names : List (PerKind (List ℕ))) (s t : Consoles) → i < n → is_over s ≡ false → t ≡ advanced s
    → segment_pieces (n - i) names s
    ≡ cut_pieces growing_kinds names t.asks (segment_cut t).consoles ++ segment_pieces (n - (i + 1)) names t
next-at n i names s t more left is =
    let one : n - i ≡ suc (n - (i + 1)) = omega (arith, more) in
    ap (λ most. segment_pieces most names s) one ∙ next-segment (n - (i + 1)) names s left
    ∙ ap (λ asks. cut_pieces growing_kinds names asks (segment_cut (advanced s)).consoles
    ++ segment_pieces (n - (i + 1)) names (advanced s)) (sym (advances s).asks)
    ∙ ap (λ (x : Consoles). cut_pieces growing_kinds names x.asks (segment_cut x).consoles
    ++ segment_pieces (n - (i + 1)) names x) (sym is)

-- one segment more leaves the same
pub advances-on : (first s t : Consoles) → IsAdvanced first s → t ≡ advanced s → IsAdvanced first t
advances-on first s t held is =
    let more = advances s in
    subst (IsAdvanced first) (sym is)
    (record { start = more.start ∙ held.start; until = more.until ∙ held.until; asks = more.asks ∙ held.asks })

pub is-last : (first s : Consoles) → IsAdvanced first s → is_over s ≡ true → IsLast first s
is-last first s held over = record { over = over; start = held.start; until = held.until; asks = held.asks }

-- the whole run of a session whose last segment is run is that of the session before its first
pub last-whole : (s first last : Consoles) → first ≡ advanced s → IsLast first last → whole_cut last ≡ whole_cut s
last-whole s first last is l =
    let more = advances s in
    ap (λ (u : ℕ). run_until u last.start) (l.until ∙ ap (λ (x : Consoles). x.until) is ∙ more.until)
    ∙ ap (λ (start : Cut Machine). run_until s.until start) (l.start ∙ ap (λ (x : Consoles). x.start) is ∙ more.start)

pub same-whole : (s last : Consoles) → IsLast s last → whole_cut last ≡ whole_cut s
same-whole s last l =
    ap (λ (u : ℕ). run_until u last.start) l.until ∙ ap (λ (start : Cut Machine). run_until s.until start) l.start

pub last-asks : (s first last : Consoles) → first ≡ advanced s → IsLast first last → last.asks ≡ s.asks
last-asks s first last is l = l.asks ∙ ap (λ (x : Consoles). x.asks) is ∙ (advances s).asks

-- there are as many files as consoles
pub files-many : (job : WholeJob) (s : Consoles) → IsReady job s
    → length (files_at job (whole_cut s)) ≡ length job.consoles
files-many job s ready =
    let asks = length-map job.consoles asks_of in
    let machines = until-many s.until s.start in
    files-long (map asks_of job.consoles) (whole_cut s).consoles (omega (arith, asks, machines, ready.many)) ∙ asks

-- ---- state and save don't tell of the lists

lasting-one : (names : PerKind (List ℕ)) (asks : PerKind Bool) (m w : Machine) → forgotten m ≡ forgotten w
    → console_pieces lasting_kinds names asks m ≡ console_pieces lasting_kinds names asks w
lasting-one names asks m w same =
    let state : state_file m ≡ state_file w = sym (state-forgotten m) ∙ ap state_file same ∙ state-forgotten w in
    let save : save_file m ≡ save_file w = ap (λ (x : Machine). save_file x) same in
    rw (state, save) refl

heads : {X : Type 0} (x y : X) (xs ys : List X) → x ∷ xs ≡ y ∷ ys → x ≡ y
heads x y xs ys h = cc

tails : {X : Type 0} (x y : X) (xs ys : List X) → x ∷ xs ≡ y ∷ ys → xs ≡ ys
tails x y xs ys h = cc

pub lasting-same : (names : List (PerKind (List ℕ))) (asks : List (PerKind Bool)) (ms ws : List Machine)
    → map forgotten ms ≡ map forgotten ws
    → cut_pieces lasting_kinds names asks ms ≡ cut_pieces lasting_kinds names asks ws
unfolding cut_pieces
lasting-same [] asks ms ws same = refl
lasting-same (n ∷ names) [] ms ws same = refl
lasting-same (n ∷ names) (a ∷ asks) [] [] same = refl
lasting-same (n ∷ names) (a ∷ asks) [] (w ∷ ws) same = absurd cc
lasting-same (n ∷ names) (a ∷ asks) (m ∷ ms) [] same = absurd cc
lasting-same (n ∷ names) (a ∷ asks) (m ∷ ms) (w ∷ ws) same =
    ap (λ pieces. pieces ++ cut_pieces lasting_kinds names asks ms)
    (lasting-one n a m w (heads (forgotten m) (forgotten w) (map forgotten ms) (map forgotten ws) same))
    ∙ ap (λ pieces. console_pieces lasting_kinds n a w ++ pieces)
    (lasting-same names asks ms ws (tails (forgotten m) (forgotten w) (map forgotten ms) (map forgotten ws) same))

-- a session that goes on from a cut has a segment left
pub begin-before : (job : WholeJob) (start : Cut Machine) (s : Consoles) → s ≡ resumed job start → 1 ≤ job.cycles
    → s.to < s.until
begin-before job start s is some =
    omega (arith, ap (λ (x : Consoles). x.to) is, ap (λ (x : Consoles). x.until) is, some)

-- the digests of a session that has run another segment
pub before-next : (o d : Option Consoles) (s t : Consoles) → d ≡ option_map (λ _. s) o → is_over s ≡ false
    → t ≡ advanced s → IfSome d (IsSegmentBefore t)
before-next None d s t is left next = subst (λ (o : Option Consoles). IfSome o (IsSegmentBefore t)) (sym is) tt
before-next (Some before) d s t is left next =
    subst (λ (o : Option Consoles). IfSome o (IsSegmentBefore t)) (sym is) (record { left = left; next = next })

pub taken-again : (o d : Option Consoles) (s t : Consoles) → d ≡ option_map (λ _. s) o
    → option_map (λ _. t) d ≡ option_map (λ _. t) o
taken-again None d s t is = ap (option_map (λ _. t)) is
taken-again (Some before) d s t is = ap (option_map (λ _. t)) is

pub before-first : (d : Option Consoles) (s t : Consoles) → IfSome d (λ before. before ≡ s) → s.to < s.until
    → t ≡ advanced s → IfSome d (IsSegmentBefore t)
before-first None s t is left next = is
before-first (Some before) s t is left next =
    record { left = ap is_over is ∙ not-over s.to s.until left; next = next ∙ sym (ap advanced is) }
