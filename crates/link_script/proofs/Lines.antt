-- One console's steps: its clocks, its signals, and how the two go together.
use Rattle.std.specs.Prelude.{List, [], ◌∷◌, ◌++◌, length, take, Option, None, Some, IfSome, slice_get, option_to_list}
use Rattle.std.proofs.Common.{ℕ, zero, suc, ◌≡◌, ◌+◌, ◌<◌, ◌≤◌, ◌^◌, ◌⊎◌, inl, inr, arith, refl, sym, ap, ◌∙◌, subst}
use Rattle.std.proofs.Common.{drop, ◌-◌}
use Rattle.std.proofs.lemmas.Bool.Decides.{nat_tests}
use Rattle.std.proofs.lemmas.List.{length-append, take_all, take-append-drop}
use Rattle.link_node.specs.declared.signal.Signal.{Signal}
use Rattle.link_node.specs.Due.{FitsWidths}
use Rattle.link_order.specs.Way.{Move, clock_after, told_in, told_count}
use Rattle.link_trace.proofs.Ways.{told_in-append}
use Rattle.link_script.specs.Script.{IsBorne, IsSoundMove, AreSoundMoves}

-- an element that is there, by its place
pub found : {X : Type 0} (xs : List X) (k : ℕ) → k < length xs → (x : X) × (slice_get xs k ≡ Some x)
found [] k below = absurd (omega arith)
found (x ∷ xs) zero below = (x, refl)
found (x ∷ xs) (suc k) below = found xs k (omega arith)

pub take_next : {X : Type 0} (xs : List X) (k : ℕ) (x : X) → slice_get xs k ≡ Some x
    → take (suc k) xs ≡ take k xs ++ x ∷ []
take_next [] k x e = cc
take_next (y ∷ ys) zero x e = ap (λ (z : _). z ∷ []) (let t : y ≡ x = cc in t)
take_next (y ∷ ys) (suc k) x e = ap (λ (l : List _). y ∷ l) (take_next ys k x e)

below_or_past : (k n : ℕ) → (k < n) ⊎ (n ≤ k)
below_or_past k n = grind (arith, nat_tests)

-- a step's clock is the one after it
pub clock_next : (c : ℕ) (ms : List Move) (k : ℕ) (m : Move) → slice_get ms k ≡ Some m
    → clock_after c ms (suc k) ≡ m.clock
clock_next c [] k m e = cc
clock_next c (x ∷ ms) zero m e = let t : x ≡ m = cc in ap (λ (z : Move). z.clock) t
clock_next c (x ∷ ms) (suc k) m e = clock_next x.clock ms k m e

clock_past : (c : ℕ) (ms : List Move) (k : ℕ) → length ms ≤ k → clock_after c ms (suc k) ≡ clock_after c ms k
clock_past c [] zero past = refl
clock_past c [] (suc k) past = refl
clock_past c (x ∷ ms) zero past = absurd (omega arith)
clock_past c (x ∷ ms) (suc k) past = clock_past x.clock ms k (omega arith)

-- a step's signal joins those before it
told_next : (ms : List Move) (k : ℕ) (m : Move) → slice_get ms k ≡ Some m
    → told_in (take (suc k) ms) ≡ told_in (take k ms) ++ told_in (m ∷ [])
told_next ms k m e = ap told_in (take_next ms k m e) ∙ told_in-append (take k ms) (m ∷ [])

one_of : (m : Move) → length (told_in (m ∷ [])) ≡ length (option_to_list m.tells)
one_of m = length-append (option_to_list m.tells) [] ∙ omega arith

pub count_next : (ms : List Move) (k : ℕ) (m : Move) → slice_get ms k ≡ Some m
    → told_count ms (suc k) ≡ told_count ms k + length (option_to_list m.tells)
count_next ms k m e =
    ap length (told_next ms k m e) ∙ length-append (told_in (take k ms)) (told_in (m ∷ []))
    ∙ ap (λ (n : ℕ). told_count ms k + n) (one_of m)

count_past : (ms : List Move) (k : ℕ) → length ms ≤ k → told_count ms (suc k) ≡ told_count ms k
count_past ms k past =
    ap (λ (l : List Move). length (told_in l)) (take_all (suc k) ms (omega arith) ∙ sym (take_all k ms past))

pub one_at_most : (o : Option Signal) → length (option_to_list o) ≤ 1
one_at_most None = omega arith
one_at_most (Some x) = omega arith

-- one place further: the clock doesn't fall, and rises by at least as much as signals are sent
record Paces (c : ℕ) (ms : List Move) (k l : ℕ) : Type 0 where
  clock_up : clock_after c ms k ≤ clock_after c ms l
  count_up : told_count ms k ≤ told_count ms l
  pace : told_count ms l + clock_after c ms k ≤ told_count ms k + clock_after c ms l

paces_one : (c : ℕ) (ms : List Move) → AreSoundMoves c ms → (k : ℕ) → Paces c ms k (suc k)
paces_one c ms sound k =
    elim (below_or_past k (length ms)) [
      | inl below ↦
          let m : Move = (found ms k below).0 in
          let e : slice_get ms k ≡ Some m = (found ms k below).1 in
          let s : IsSoundMove (clock_after c ms k) m = sound k m e in
          let r : clock_after c ms k < m.clock = s.rises in
          let a : clock_after c ms (suc k) ≡ m.clock = clock_next c ms k m e in
          let b : told_count ms (suc k) ≡ told_count ms k + length (option_to_list m.tells) = count_next ms k m e in
          let o : length (option_to_list m.tells) ≤ 1 = one_at_most m.tells in
          record { clock_up = omega arith; count_up = omega arith; pace = omega arith }
      | inr past ↦
          let a : clock_after c ms (suc k) ≡ clock_after c ms k = clock_past c ms k past in
          let b : told_count ms (suc k) ≡ told_count ms k = count_past ms k past in
          record { clock_up = omega arith; count_up = omega arith; pace = omega arith }
    ]

paces_by : (c : ℕ) (ms : List Move) → AreSoundMoves c ms → (k d : ℕ) → Paces c ms k (d + k)
paces_by c ms sound k zero =
    subst (λ (l : ℕ). Paces c ms k l) (let t : k ≡ zero + k = omega arith in t)
    (record { clock_up = omega arith; count_up = omega arith; pace = omega arith })
paces_by c ms sound k (suc d) =
    let ih = paces_by c ms sound k d in
    let one = paces_one c ms sound (d + k) in
    subst (λ (l : ℕ). Paces c ms k l) (let t : suc (d + k) ≡ suc d + k = omega arith in t)
    (record {
      clock_up = omega (arith, ih.clock_up, one.clock_up);
      count_up = omega (arith, ih.count_up, one.count_up);
      pace = omega (arith, ih.pace, one.pace);
    })

paces : (c : ℕ) (ms : List Move) → AreSoundMoves c ms → (k l : ℕ) → k ≤ l → Paces c ms k l
paces c ms sound k l le =
    subst (λ (n : ℕ). Paces c ms k n) (let t : (l - k) + k ≡ l = omega arith in t) (paces_by c ms sound k (l - k))

pub clock_up : (c : ℕ) (ms : List Move) → AreSoundMoves c ms → (k l : ℕ) → k ≤ l
    → clock_after c ms k ≤ clock_after c ms l
clock_up c ms sound k l le = (paces c ms sound k l le).clock_up

pub count_up : (c : ℕ) (ms : List Move) → AreSoundMoves c ms → (k l : ℕ) → k ≤ l → told_count ms k ≤ told_count ms l
count_up c ms sound k l le = (paces c ms sound k l le).count_up

clock_first : (c : ℕ) (ms : List Move) → clock_after c ms zero ≡ c
clock_first c ms = refl

count_first : (ms : List Move) → told_count ms zero ≡ 0
count_first ms = refl

-- no more signals than cycles
pub count_small : (c : ℕ) (ms : List Move) → AreSoundMoves c ms → (k : ℕ) → told_count ms k ≤ clock_after c ms k
count_small c ms sound k =
    let p = paces c ms sound zero k (omega arith) in
    let a : clock_after c ms zero ≡ c = clock_first c ms in
    let b : told_count ms zero ≡ 0 = count_first ms in
    omega (arith, p.pace)

pub clock_small : (c : ℕ) (ms : List Move) → AreSoundMoves c ms → c < 2 ^ 40 → (k : ℕ) → clock_after c ms k < 2 ^ 40
clock_small c ms sound small zero = small
clock_small c ms sound small (suc k) =
    elim (below_or_past k (length ms)) [
      | inl below ↦
          let m : Move = (found ms k below).0 in
          let e : slice_get ms k ≡ Some m = (found ms k below).1 in
          let s : IsSoundMove (clock_after c ms k) m = sound k m e in
          let r : m.clock < 2 ^ 40 = s.small in
          let a : clock_after c ms (suc k) ≡ m.clock = clock_next c ms k m e in
          subst (λ (n : ℕ). n < 2 ^ 40) (sym a) r
      | inr past ↦
          subst (λ (n : ℕ). n < 2 ^ 40) (sym (clock_past c ms k past)) (clock_small c ms sound small k)
    ]

-- the step that sent a signal: it stands at a place where as many have been sent
pub record Source (ms : List Move) (n : ℕ) (x : Signal) : Type 0 where
  pub place : ℕ
  pub move : Move
  pub stands : slice_get ms place ≡ Some move
  pub tells : move.tells ≡ Some x
  pub before : told_count ms place ≡ n

told_none : (m : Move) (ms : List Move) → m.tells ≡ None → told_in (m ∷ ms) ≡ told_in ms
told_none m ms e = ap (λ (o : Option Signal). option_to_list o ++ told_in ms) e

told_some : (m : Move) (ms : List Move) (x : Signal) → m.tells ≡ Some x → told_in (m ∷ ms) ≡ x ∷ told_in ms
told_some m ms x e = ap (λ (o : Option Signal). option_to_list o ++ told_in ms) e

tells_cases : (o : Option Signal) → (o ≡ None) ⊎ ((x : Signal) × (o ≡ Some x))
tells_cases None = inl refl
tells_cases (Some x) = inr (x, refl)

source_later : (m : Move) (ms : List Move) (n d : ℕ) (x : Signal) → told_count (m ∷ []) (suc zero) ≡ d
    → Source ms n x → Source (m ∷ ms) (d + n) x
source_later m ms n d x count s = record {
  place = suc s.place;
  move = s.move;
  stands = s.stands;
  tells = s.tells;
  before =
      let a : told_count (m ∷ ms) (suc s.place) ≡ length (option_to_list m.tells) + told_count ms s.place
      = length-append (option_to_list m.tells) (told_in (take s.place ms)) in
      let b : told_count (m ∷ []) (suc zero) ≡ length (option_to_list m.tells) = one_of m in
      omega (arith, s.before);
}

source_tail : (m : Move) (ms : List Move) (n : ℕ) (x y : Signal) → m.tells ≡ Some y
    → slice_get (y ∷ told_in ms) n ≡ Some x
    → ((j : ℕ) → slice_get (told_in ms) j ≡ Some x → Source ms j x) → Source (m ∷ ms) n x
source_tail m ms zero x y e at ih = record {
  place = zero;
  move = m;
  stands = refl;
  tells = e ∙ at;
  before = count_first (m ∷ ms);
}
source_tail m ms (suc n) x y e at ih =
    let one : told_count (m ∷ []) (suc zero) ≡ 1 = ap length (told_some m [] y e) in
    subst (λ (k : ℕ). Source (m ∷ ms) k x) (let t : 1 + n ≡ suc n = omega arith in t)
    (source_later m ms n 1 x one (ih n at))

pub source : (ms : List Move) (n : ℕ) (x : Signal) → slice_get (told_in ms) n ≡ Some x → Source ms n x
source [] n x e = cc
source (m ∷ ms) n x e =
    let ih = source ms in
    elim (tells_cases m.tells) [
      | inl none ↦
          let at : slice_get (told_in ms) n ≡ Some x
          = ap (λ (l : List Signal). slice_get l n) (sym (told_none m ms none)) ∙ e in
          let nothing : told_count (m ∷ []) (suc zero) ≡ 0 = ap length (told_none m [] none) in
          subst (λ (k : ℕ). Source (m ∷ ms) k x) (let t : 0 + n ≡ n = omega arith in t)
          (source_later m ms n 0 x nothing (ih n x at))
      | inr some ↦
          let at : slice_get (some.0 ∷ told_in ms) n ≡ Some x
          = ap (λ (l : List Signal). slice_get l n) (sym (told_some m ms some.0 some.1)) ∙ e in
          source_tail m ms n x some.0 some.1 at (λ j. ih j x)
    ]

get_behind : {X : Type 0} (p q : List X) (n k : ℕ) → k ≡ length p + n → slice_get (p ++ q) k ≡ slice_get q n
get_behind [] q n k e = ap (slice_get q) (let t : k ≡ n = omega arith in t)
get_behind (a ∷ p) q n zero e = absurd (omega arith)
get_behind (a ∷ p) q n (suc k) e = get_behind p q n k (omega arith)

-- the signal of a step stands where as many have been sent
pub told_here : (ms : List Move) (k : ℕ) (m : Move) (x : Signal) → slice_get ms k ≡ Some m → m.tells ≡ Some x
    → slice_get (told_in ms) (told_count ms k) ≡ Some x
told_here [] k m x e tells = cc
told_here (y ∷ ms) zero m x e tells =
    let same : y ≡ m = cc in
    ap (λ (l : List Signal). slice_get l zero) (told_some y ms x (ap (λ (z : Move). z.tells) same ∙ tells))
told_here (y ∷ ms) (suc k) m x e tells =
    get_behind (option_to_list y.tells) (told_in ms) (told_count ms k) (told_count (y ∷ ms) (suc k))
    (length-append (option_to_list y.tells) (told_in (take k ms)))
    ∙ told_here ms k m x e tells

count_within : (ms : List Move) (k : ℕ) → told_count ms k ≤ length (told_in ms)
count_within ms k =
    let whole : length (told_in ms) ≡ told_count ms k + length (told_in (drop k ms))
    = ap (λ (l : List Move). length (told_in l)) (sym (take-append-drop k ms))
    ∙ ap length (told_in-append (take k ms) (drop k ms))
    ∙ length-append (told_in (take k ms)) (told_in (drop k ms)) in
    omega arith

-- as many signals are there as have been sent by some step
pub told_there : (ms : List Move) (n k : ℕ) → n < told_count ms k → (x : Signal) × (slice_get (told_in ms) n ≡ Some x)
told_there ms n k below =
    let h : told_count ms k ≤ length (told_in ms) = count_within ms k in
    found (told_in ms) n (omega arith)

-- what a signal is: it bears the clock of its step, and fits the words of a table
pub record Told (c : ℕ) (ms : List Move) (n : ℕ) (x : Signal) : Type 0 where
  pub place : ℕ
  pub clock_is : x.clock ≡ clock_after c ms place
  pub later : x.clock < clock_after c ms (suc place)
  pub before : told_count ms place ≡ n
  pub after : told_count ms (suc place) ≡ suc n
  pub small : x.clock < 2 ^ 40
  pub fits : FitsWidths x

pub told_is : (c : ℕ) (ms : List Move) → AreSoundMoves c ms → (n : ℕ) (x : Signal) → slice_get (told_in ms) n ≡ Some x
    → Told c ms n x
told_is c ms sound n x e =
    let s = source ms n x e in
    let ok : IsSoundMove (clock_after c ms s.place) s.move = sound s.place s.move s.stands in
    let borne : IsBorne (clock_after c ms s.place) x
    = subst (λ (o : Option Signal). IfSome o (IsBorne (clock_after c ms s.place))) s.tells ok.bears in
    let rises : clock_after c ms s.place < s.move.clock = ok.rises in
    let small : s.move.clock < 2 ^ 40 = ok.small in
    let next : clock_after c ms (suc s.place) ≡ s.move.clock = clock_next c ms s.place s.move s.stands in
    let is : x.clock ≡ clock_after c ms s.place = borne.clock_is in
    let one : length (option_to_list s.move.tells) ≡ 1
    = ap (λ (o : Option Signal). length (option_to_list o)) s.tells in
    let count : told_count ms (suc s.place) ≡ told_count ms s.place + length (option_to_list s.move.tells)
    = count_next ms s.place s.move s.stands in
    let before : told_count ms s.place ≡ n = s.before in
    record {
      place = s.place;
      clock_is = is;
      later = subst (λ (n : ℕ). x.clock < n) (sym next) (subst (λ (n : ℕ). n < s.move.clock) (sym is) rises);
      before = before;
      after = omega arith;
      small = omega arith;
      fits = borne.fits;
    }

-- a signal that was sent by then bears an earlier clock, and one that wasn't bears that clock or a later one
pub told_early : (c : ℕ) (ms : List Move) → AreSoundMoves c ms → (n k : ℕ) (x : Signal)
    → slice_get (told_in ms) n ≡ Some x → n < told_count ms k → x.clock < clock_after c ms k
told_early c ms sound n k x e below =
    let t = told_is c ms sound n x e in
    elim (below_or_past t.place k) [
      | inl earlier ↦
          let up : clock_after c ms (suc t.place) ≤ clock_after c ms k
          = clock_up c ms sound (suc t.place) k (omega arith) in
          omega (arith, t.later)
      | inr later ↦
          let up : told_count ms k ≤ told_count ms t.place = count_up c ms sound k t.place later in
          absurd (omega (arith, t.before))
    ]

pub told_late : (c : ℕ) (ms : List Move) → AreSoundMoves c ms → (n k : ℕ) (x : Signal)
    → slice_get (told_in ms) n ≡ Some x → told_count ms k ≤ n → clock_after c ms k ≤ x.clock
told_late c ms sound n k x e past =
    let t = told_is c ms sound n x e in
    elim (below_or_past t.place k) [
      | inl earlier ↦
          let up : told_count ms (suc t.place) ≤ told_count ms k = count_up c ms sound (suc t.place) k (omega arith) in
          absurd (omega (arith, t.after))
      | inr later ↦
          let up : clock_after c ms k ≤ clock_after c ms t.place = clock_up c ms sound k t.place later in
          omega (arith, t.clock_is)
    ]

-- signals so many numbers apart bear clocks at least as far apart
pub told_apart : (c : ℕ) (ms : List Move) → AreSoundMoves c ms → (a b : ℕ) (x y : Signal)
    → slice_get (told_in ms) a ≡ Some x → slice_get (told_in ms) b ≡ Some y → a ≤ b → b + x.clock ≤ a + y.clock
told_apart c ms sound a b x y ex ey le =
    let s = told_is c ms sound a x ex in
    let t = told_is c ms sound b y ey in
    elim (below_or_past t.place s.place) [
      | inl earlier ↦
          let up : told_count ms (suc t.place) ≤ told_count ms s.place
          = count_up c ms sound (suc t.place) s.place (omega arith) in
          absurd (omega (arith, s.before, t.after))
      | inr later ↦
          let pace : told_count ms t.place + clock_after c ms s.place ≤ told_count ms s.place + clock_after c ms t.place
          = (paces c ms sound s.place t.place later).pace in
          omega (arith, s.before, t.before, s.clock_is, t.clock_is)
    ]
