-- How often a tone moves, and how long it waits then.
use Rattle.std.proofs.Common.{◌≡◌, ℕ, zero, suc, ◌+◌, ◌-◌, ◌*◌, ◌/◌, ◌%◌, ◌<◌, ◌≤◌, Bool, true, false, refl, ap, subst, sym, ◌∙◌, arith, add-one}
use Rattle.std.specs.Prelude.{nat_lt, nat_eq, if◌then◌else◌}
use Rattle.std.proofs.Math.Nat.{add-mul-mod_self_left}
use Rattle.std.proofs.lemmas.Nat.{div-mul-add, div-add-mod', mod-mul-add, mod_below}
use Rattle.gba_psg.specs.declared.tone.Tone.{Tone}
use Rattle.gba_psg.specs.Running.{moves_in, moves_of, repeated, tone_run, wait_after, wait_of}

-- a number's quotient and remainder, and those of the next number
pub quotient-on : (d p : ℕ) → d % p + 1 < p → (d + 1) / p ≡ d / p
quotient-on d p h =
    let whole : d + 1 ≡ d / p * p + (d % p + 1) = (let parts = div-add-mod' d p in omega (arith, parts)) in
    ap (λ n. n / p) whole ∙ div-mul-add (d / p) p (d % p + 1) h

pub remainder-on : (d p : ℕ) → d % p + 1 < p → (d + 1) % p ≡ d % p + 1
remainder-on d p h =
    let whole : d + 1 ≡ d / p * p + (d % p + 1) = (let parts = div-add-mod' d p in omega (arith, parts)) in
    ap (λ n. n % p) whole ∙ mod-mul-add (d / p) p (d % p + 1) h

full-is : (d p : ℕ) → d % p + 1 ≡ p → d + 1 ≡ (d / p + 1) * p + 0
full-is d p h = (let parts = div-add-mod' d p in grind (arith, parts, h))

pub quotient-full : (d p : ℕ) → 0 < p → d % p + 1 ≡ p → (d + 1) / p ≡ d / p + 1
quotient-full d p some h = ap (λ n. n / p) (full-is d p h) ∙ div-mul-add (d / p + 1) p 0 some

pub remainder-full : (d p : ℕ) → 0 < p → d % p + 1 ≡ p → (d + 1) % p ≡ 0
remainder-full d p some h = ap (λ n. n % p) (full-is d p h) ∙ mod-mul-add (d / p + 1) p 0 some

-- A cycle later: either a move comes, or a cycle less is to be waited.
pub record NextMove (p n w : ℕ) : Type 0 where
  pub moves : moves_in p (n + 1) w ≡ moves_in p n w + 1
  pub wait : wait_after p (n + 1) w ≡ p

pub record NoMove (p n w : ℕ) : Type 0 where
  pub moves : moves_in p (n + 1) w ≡ moves_in p n w
  pub wait : wait_after p (n + 1) w ≡ wait_after p n w - 1

pub zero-divided : (p : ℕ) → 0 < p → 0 / p ≡ 0
zero-divided p some = (let none : 0 ≡ 0 * p + 0 = omega arith in ap (λ n. n / p) none ∙ div-mul-add 0 p 0 some)

pub zero-left : (p : ℕ) → 0 < p → 0 % p ≡ 0
zero-left p some = (let none : 0 ≡ 0 * p + 0 = omega arith in ap (λ n. n % p) none ∙ mod-mul-add 0 p 0 some)

is-less : (n w : ℕ) → nat_lt n w ≡ true → n < w
is-less n w e = grind arith

is-past : (n w : ℕ) → nat_lt n w ≡ false → w ≤ n
is-past n w e = grind arith

less-is : (n w : ℕ) → n < w → nat_lt n w ≡ true
less-is n w h = grind arith

past-is : (n w : ℕ) → w ≤ n → nat_lt n w ≡ false
past-is n w h = grind arith

-- by whether the first move is still to come
first-comes : (p n w : ℕ) → 0 < p → n + 1 ≡ w → NextMove p n w
first-comes p n w some h =
    let now = less-is n w (omega (arith, h)) in
    let later = past-is (n + 1) w (omega (arith, h)) in
    let none : n + 1 - w ≡ 0 = omega (arith, h) in
    record {
      moves = rw (now, later, none) (omega (arith, zero-divided p some));
      wait = rw (later, none) (omega (arith, zero-left p some));
    }

still-waits : (p n w : ℕ) → n + 1 < w → NoMove p n w
still-waits p n w h =
    let now = less-is n w (omega (arith, h)) in
    let later = less-is (n + 1) w h in
    record { moves = rw (now, later) refl; wait = rw (now, later) (omega (arith, h)) }

beyond-is : (n w : ℕ) → w ≤ n → n + 1 - w ≡ n - w + 1
beyond-is n w h = omega (arith, h)

moves-again : (p n w : ℕ) → 0 < p → w ≤ n → (n - w) % p + 1 ≡ p → NextMove p n w
moves-again p n w some h e =
    let now = past-is n w h in
    let later = past-is (n + 1) w (omega (arith, h)) in
    let more = beyond-is n w h in
    record {
      moves = rw (now, later, more) (ap (λ q. q + 1) (quotient-full (n - w) p some e));
      wait = rw (later, more) (let gone = remainder-full (n - w) p some e in omega (arith, gone));
    }

waits-again : (p n w : ℕ) → w ≤ n → (n - w) % p + 1 < p → NoMove p n w
waits-again p n w h e =
    let now = past-is n w h in
    let later = past-is (n + 1) w (omega (arith, h)) in
    let more = beyond-is n w h in
    let rest = remainder-on (n - w) p e in
    record {
      moves = rw (now, later, more) (ap (λ q. q + 1) (quotient-on (n - w) p e));
      wait = rw (now, later, more) (omega (arith, rest, e));
    }

next-by : (p n w : ℕ) (before : Bool) → nat_lt n w ≡ before → 0 < p → 0 < w → nat_eq (wait_after p n w - 1) 0 ≡ true
    → NextMove p n w
next-by p n w true b some waits e =
    let due = rw b at e in
    let less = is-less n w b in
    first-comes p n w some (grind (arith, due, less))
next-by p n w false b some waits e =
    let due = rw b at e in
    let below = mod_below (n - w) p some in
    moves-again p n w some (is-past n w b) (grind (arith, due, below))

none-by : (p n w : ℕ) (before : Bool) → nat_lt n w ≡ before → 0 < p → 0 < w → nat_eq (wait_after p n w - 1) 0 ≡ false
    → NoMove p n w
none-by p n w true b some waits e =
    let due = rw b at e in
    let less = is-less n w b in
    still-waits p n w (grind (arith, due, less))
none-by p n w false b some waits e =
    let due = rw b at e in
    let below = mod_below (n - w) p some in
    waits-again p n w (is-past n w b) (grind (arith, due, below))

pub next-move : (p n w : ℕ) → 0 < p → 0 < w → nat_eq (wait_after p n w - 1) 0 ≡ true → NextMove p n w
next-move p n w some waits e = next-by p n w (nat_lt n w) refl some waits e

pub no-move : (p n w : ℕ) → 0 < p → 0 < w → nat_eq (wait_after p n w - 1) 0 ≡ false → NoMove p n w
no-move p n w some waits e = none-by p n w (nat_lt n w) refl some waits e

-- before the first cycle
pub moves-none : (p w : ℕ) → 0 < w → moves_in p 0 w ≡ 0
moves-none p w h = rw (less-is 0 w h) refl

pub wait-none : (p w : ℕ) → 0 < w → wait_after p 0 w ≡ w
wait-none p w h = rw (less-is 0 w h) (omega arith)

-- moves one by one
pub repeated-none : (next : ℕ → ℕ) (place : ℕ) → repeated next 0 place ≡ place
unfolding repeated
repeated-none next place = refl

pub repeated-more : (next : ℕ → ℕ) (count place : ℕ)
    → repeated next (count + 1) place ≡ next (repeated next count place)
unfolding repeated
repeated-more next count place = rw add-one refl

-- so many moves of a place that goes round
pub mod-more : (size n : ℕ) → 0 < size → (n % size + 1) % size ≡ (n + 1) % size
mod-more size n some =
    let parts = div-add-mod' n size in
    let whole : n + 1 ≡ n % size + 1 + size * (n / size) = grind (arith, parts) in
    sym (ap (λ k. k % size) whole ∙ add-mul-mod_self_left (n % size + 1) size (n / size))

abbrev pub Rounds : ℕ → ℕ → ℕ → Type 0
Rounds size count place = repeated (λ at. (at + 1) % size) count place ≡ (place + count) % size

pub round-moves : (size count place : ℕ) → 0 < size → Rounds size (count + 1) place
round-moves size zero place some =
    repeated-more (λ at. (at + 1) % size) 0 place
    ∙ ap (λ n. (n + 1) % size) (repeated-none (λ at. (at + 1) % size) place)
round-moves size (suc count) place some =
    let one : count + 1 ≡ suc count = omega arith in
    let all : place + suc count + 1 ≡ place + (suc count + 1) = omega arith in
    let before = subst (λ n. Rounds size n place) one (round-moves size count place some) in
    repeated-more (λ at. (at + 1) % size) (suc count) place
    ∙ ap (λ n. (n + 1) % size) before
    ∙ mod-more size (place + suc count) some
    ∙ ap (λ n. n % size) all

pub round-some : (size count place : ℕ) → 0 < size → 0 < count → Rounds size count place
round-some size zero place some h = absurd (omega (arith, h))
round-some size (suc count) place some h =
    let one : count + 1 ≡ suc count = omega arith in
    subst (λ n. Rounds size n place) one (round-moves size count place some)

-- a tone that is off stays, and one that is on goes where its moves lead
pub tone-still : (next : ℕ → ℕ) (p n : ℕ) (t : Tone) → t.on ≡ false → t ≡ tone_run next p n t
tone-still next p n t off =
    let place =
    ap (λ on. repeated next (if on then moves_in p n t.wait else 0) t.place) off ∙ repeated-none next t.place in
    let wait = ap (λ on. if on then wait_after p n t.wait else t.wait) off in
    λ i. record t { place = sym place i; wait = sym wait i }

pub tone-moved : (next : ℕ → ℕ) (p n moves place : ℕ) (t after : Tone) → after ≡ record t { wait = wait_of p n t }
    → moves ≡ moves_of p n t → place ≡ repeated next moves t.place
    → record after { place = place } ≡ tone_run next p n t
tone-moved next p n moves place t after waits count e =
    let there = e ∙ ap (λ m. repeated next m t.place) count in
    λ i. record (waits i) { place = there i }

pub tone-waits : (next : ℕ → ℕ) (p n moves : ℕ) (t after : Tone) → after ≡ record t { wait = wait_of p n t }
    → moves ≡ moves_of p n t → moves ≤ 0 → after ≡ tone_run next p n t
tone-waits next p n moves t after waits count none =
    let zero_moves : moves_of p n t ≡ 0 = omega (arith, count, none) in
    let there = ap (λ m. repeated next m t.place) zero_moves ∙ repeated-none next t.place in
    waits ∙ (λ i. record t { place = sym there i; wait = wait_of p n t })
