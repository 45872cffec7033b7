-- Members of lists of signals.
use Rattle.std.specs.Prelude.{Bool, true, List, [], ◌∷◌, filter, take, Contains, Some, None}
use Rattle.std.specs.Prelude.{slice_get}
use Rattle.std.proofs.Common.{ℕ, zero, suc, ◌≡◌, ◌≢◌, ◌+◌, ◌<◌, ◌≤◌, ◌⊎◌, inl, inr, arith, refl, sym, ap, ◌∙◌, subst}
use Rattle.std.proofs.lemmas.Bool.{cases_Bool}
use Rattle.link_node.specs.declared.signal.Incoming.{Incoming}
use Rattle.link_node.specs.declared.signal.Signal.{Signal}
use Rattle.link_order.specs.declared.sent.Sent.{Sent}
use Rattle.link_order.specs.Order.{is_before, from}
use Rattle.link_order.specs.Due.{arrival_of, player_of, incoming, arriving, arrivals, place_due, place_all}
use Rattle.link_order.proofs.Numbers.{same_or_apart}
use Rattle.link_order.proofs.Lists.{filter_keeps, filter_drops}
use Rattle.link_order.proofs.Senders.{from_own, from_other}
use Rattle.link_order.proofs.Places.{place_before, place_past}
use Rattle.link_order.proofs.DueSignals.{arriving_due, arriving_not, due_own, due_other}

pub here_first : {X : Type 0} (x : X) (xs : List X) → Contains (x ∷ xs) x
here_first x xs = (0, omega arith, refl)

pub here_later : {X : Type 0} (y x : X) (xs : List X) → Contains xs x → Contains (y ∷ xs) x
here_later y x xs c = (suc c.0, omega (arith, c.1), c.2)

pub here_cases : {X : Type 0} (y x : X) (xs : List X) → Contains (y ∷ xs) x → (y ≡ x) ⊎ Contains xs x
here_cases y x xs (zero, below, is) = inl is
here_cases y x xs (suc k, below, is) = inr (k, omega arith, is)

here_nowhere : {X : Type 0} (x : X) → Contains [] x → ⊥
here_nowhere x c = absurd (omega (arith, c.1))

-- at a place
pub here_at : {X : Type 0} (xs : List X) (k : ℕ) (x : X) → slice_get xs k ≡ Some x → Contains xs x
here_at [] k x e = let f : None ≡ Some x = e in cc
here_at (y ∷ ys) zero x e = let f : Some y ≡ Some x = e in let g : y ≡ x = cc in (0, omega arith, g)
here_at (y ∷ ys) (suc k) x e = here_later y x ys (here_at ys k x e)

-- among the first
pub first_at : {X : Type 0} (xs : List X) (n k : ℕ) (x : X) → slice_get xs k ≡ Some x → k < n → Contains (take n xs) x
first_at [] n k x e below = let f : None ≡ Some x = e in cc
first_at (y ∷ ys) zero k x e below = absurd (omega arith)
first_at (y ∷ ys) (suc n) zero x e below =
    let f : Some y ≡ Some x = e in
    let g : y ≡ x = cc in
    (0, omega arith, g)
first_at (y ∷ ys) (suc n) (suc k) x e below = here_later y x (take n ys) (first_at ys n k x e (omega arith))

pub record AtPlace {X : Type 0} (xs : List X) (n : ℕ) (x : X) : Type 0 where
  pub place : ℕ
  pub below : place < n
  pub stands : slice_get xs place ≡ Some x

pub at_first : {X : Type 0} (xs : List X) (n : ℕ) (x : X) → Contains (take n xs) x → AtPlace xs n x
at_first [] zero x c = absurd (here_nowhere x c)
at_first [] (suc n) x c = absurd (here_nowhere x c)
at_first (y ∷ ys) zero x c = absurd (here_nowhere x c)
at_first (y ∷ ys) (suc n) x c =
    elim (here_cases y x (take n ys) c) [
      | inl e ↦ record { place = 0; below = omega arith; stands = ap Some e }
      | inr later ↦
          let a = at_first ys n x later in
          record { place = suc a.place; below = omega (arith, a.below); stands = a.stands }
    ]

-- of the first, some are among more of the first
pub first_more : {X : Type 0} (xs : List X) (n m : ℕ) (x : X) → n ≤ m → Contains (take n xs) x → Contains (take m xs) x
first_more xs n m x le c =
    let a = at_first xs n x c in
    first_at xs m a.place x a.stands (omega (arith, a.below))

-- those that pass a test
pub here_passes : {X : Type 0} (p : X → Bool) (xs : List X) (x : X) → Contains xs x → p x ≡ true
    → Contains (filter p xs) x
here_passes p [] x c e = absurd (here_nowhere x c)
here_passes p (y ∷ ys) x c e =
    elim (here_cases y x ys c) [
      | inl same ↦
          let t : p y ≡ true = ap p same ∙ e in
          subst (λ (l : List _). Contains l x) (sym (filter_keeps p y ys t))
          (subst (λ (z : _). Contains (z ∷ filter p ys) x) (sym same) (here_first x (filter p ys)))
      | inr later ↦ elim (cases_Bool (p y)) [
        | inl t ↦ subst (λ (l : List _). Contains l x) (sym (filter_keeps p y ys t))
            (here_later y x (filter p ys) (here_passes p ys x later e))
        | inr t ↦ subst (λ (l : List _). Contains l x) (sym (filter_drops p y ys t)) (here_passes p ys x later e)
      ]
    ]

pub passes_here : {X : Type 0} (p : X → Bool) (xs : List X) (x : X) → Contains (filter p xs) x
    → Contains xs x × (p x ≡ true)
passes_here p [] x c = absurd (here_nowhere x c)
passes_here p (y ∷ ys) x c =
    elim (cases_Bool (p y)) [
      | inl t ↦ elim (here_cases y x (filter p ys) (subst (λ (l : List _). Contains l x) (filter_keeps p y ys t) c)) [
        | inl same ↦ ((0, omega arith, same), sym (ap p same) ∙ t)
        | inr later ↦ let h = passes_here p ys x later in (here_later y x ys h.0, h.1)
      ]
      | inr t ↦
          let h = passes_here p ys x (subst (λ (l : List _). Contains l x) (filter_drops p y ys t) c) in
          (here_later y x ys h.0, h.1)
    ]

-- those of one sender
pub here_from : (sent : List Sent) (j : ℕ) (signal : Signal) → Contains (from j sent) signal
    → Contains sent (record { sender = j; signal = signal })
here_from [] j signal c = absurd (here_nowhere signal c)
here_from (one ∷ rest) j signal c =
    elim (same_or_apart one.sender j) [
      | inl own ↦ elim (here_cases one.signal signal (from j rest)
          (subst (λ (l : List Signal). Contains l signal) (from_own j one rest own) c)) [
            | inl e ↦
                let is : one ≡ record { sender = j; signal = signal }
                = ap (λ (k : ℕ). let z : Sent = record { sender = k; signal = one.signal } in z) own
                ∙ ap (λ (x : Signal). let z : Sent = record { sender = j; signal = x } in z) e in
                (0, omega arith, is)
            | inr later ↦ here_later one (record { sender = j; signal = signal }) rest (here_from rest j signal later)
          ]
      | inr other ↦ here_later one (record { sender = j; signal = signal }) rest
          (here_from rest j signal (subst (λ (l : List Signal). Contains l signal) (from_other j one rest other) c))
    ]

pub from_here : (sent : List Sent) (one : Sent) → Contains sent one → Contains (from one.sender sent) one.signal
from_here [] one c = absurd (here_nowhere one c)
from_here (other ∷ rest) one c =
    elim (here_cases other one rest c) [
      | inl e ↦
          let own : other.sender ≡ one.sender = ap (λ (z : Sent). z.sender) e in
          let same : other.signal ≡ one.signal = ap (λ (z : Sent). z.signal) e in
          subst (λ (l : List Signal). Contains l one.signal) (sym (from_own one.sender other rest own))
          (0, omega arith, same)
      | inr later ↦
          let h = from_here rest one later in
          elim (same_or_apart other.sender one.sender) [
            | inl own ↦ subst (λ (l : List Signal). Contains l one.signal) (sym (from_own one.sender other rest own))
                (here_later other.signal one.signal (from one.sender rest) h)
            | inr apart ↦
                subst (λ (l : List Signal). Contains l one.signal) (sym (from_other one.sender other rest apart)) h
          ]
    ]

-- those that arrive
here_placed : (one other : Incoming) (due : List Incoming) → (one ≡ other) ⊎ Contains due other
    → Contains (place_due one due) other
here_placed one other [] (inl e) = (0, omega arith, e)
here_placed one other [] (inr c) = absurd (here_nowhere other c)
here_placed one other (x ∷ xs) h =
    elim (cases_Bool (is_before arrival_of player_of one x)) [
      | inl b ↦ subst (λ (l : List Incoming). Contains l other) (sym (place_before arrival_of player_of one x xs b))
          (elim h [ inl e ↦ (0, omega arith, e) | inr c ↦ here_later one other (x ∷ xs) c ])
      | inr b ↦ subst (λ (l : List Incoming). Contains l other) (sym (place_past arrival_of player_of one x xs b))
          (elim h [
            | inl e ↦ here_later x other (place_due one xs) (here_placed one other xs (inl e))
            | inr c ↦ elim (here_cases x other xs c) [
              | inl e ↦ (0, omega arith, e)
              | inr later ↦ here_later x other (place_due one xs) (here_placed one other xs (inr later))
            ]
          ])
    ]

here_all : (more due : List Incoming) (other : Incoming) → Contains more other ⊎ Contains due other
    → Contains (place_all more due) other
here_all [] due other (inl c) = absurd (here_nowhere other c)
here_all [] due other (inr c) = c
here_all (one ∷ rest) due other h =
    here_all rest (place_due one due) other (elim h [
      | inl c ↦ elim (here_cases one other rest c) [
        | inl e ↦ inr (here_placed one other due (inl e))
        | inr later ↦ inl later
      ]
      | inr c ↦ inr (here_placed one other due (inr c))
    ])

here_arriving : (passes : ℕ → Bool) (delay j : ℕ) (xs : List Signal) (signal : Signal) → Contains xs signal
    → passes (signal.clock + delay) ≡ true → Contains (arriving passes delay j xs) (incoming delay j signal)
here_arriving passes delay j [] signal c t = absurd (here_nowhere signal c)
here_arriving passes delay j (x ∷ xs) signal c t =
    elim (here_cases x signal xs c) [
      | inl e ↦
          let own : passes (x.clock + delay) ≡ true = ap (λ (z : Signal). passes (z.clock + delay)) e ∙ t in
          subst (λ (l : List Incoming). Contains l (incoming delay j signal))
          (sym (arriving_due passes delay j x xs own)) (0, omega arith, ap (incoming delay j) e)
      | inr later ↦
          let h = here_arriving passes delay j xs signal later t in
          elim (cases_Bool (passes (x.clock + delay))) [
            | inl own ↦ subst (λ (l : List Incoming). Contains l (incoming delay j signal))
                (sym (arriving_due passes delay j x xs own))
                (here_later (incoming delay j x) (incoming delay j signal) (arriving passes delay j xs) h)
            | inr own ↦ subst (λ (l : List Incoming). Contains l (incoming delay j signal))
                (sym (arriving_not passes delay j x xs own)) h
          ]
    ]

pub here_arrivals : (between : ℕ → ℕ → ℕ) (known : ℕ → List Signal) (i : ℕ) (passes : ℕ → Bool) (n j : ℕ)
    (signal : Signal) → j < n → j ≢ i → Contains (known j) signal → passes (signal.clock + between j i) ≡ true
    → Contains (arrivals between known i passes n) (incoming (between j i) j signal)
here_arrivals between known i passes zero j signal below apart c t = absurd (omega arith)
here_arrivals between known i passes (suc k) j signal below apart c t =
    let one : Incoming = incoming (between j i) j signal in
    elim (same_or_apart k i) [
      | inl e ↦
          let less : j < k = omega (arith, apart, e) in
          let own : arrivals between known i passes (suc k) ≡ arrivals between known i passes k
          = rw e (due_own between known i passes) in
          subst (λ (l : List Incoming). Contains l one) (sym own)
          (here_arrivals between known i passes k j signal less apart c t)
      | inr e ↦
          subst (λ (l : List Incoming). Contains l one) (sym (due_other between known i passes k e))
          (here_all (arriving passes (between k i) k (known k)) (arrivals between known i passes k) one
          (elim (same_or_apart j k) [
            | inl same ↦ inl (subst (λ (m : ℕ). Contains (arriving passes (between m i) m (known m)) one) same
                (here_arriving passes (between j i) j (known j) signal c t))
            | inr other ↦ inr (here_arrivals between known i passes k j signal (omega arith) apart c t)
          ]))
    ]
