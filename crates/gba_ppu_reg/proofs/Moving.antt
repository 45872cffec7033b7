-- Where the picture is after so many cycles, and the cycle that comes to a dot, by arithmetic.
use Rattle.std.proofs.Common.{◌≡◌, ℕ, zero, suc, ◌+◌, ◌-◌, ◌<◌, ◌≤◌, Bool, true, false, refl, ap, sym, ◌∙◌, add-one, arith}
use Rattle.std.specs.Prelude.{◌==◌, nat_eq, nat_le, nat_lt, Option, None, Some, if◌then◌else◌}
use Rattle.std.specs.Option.{option_or}
use Rattle.gba_ppu_reg.specs.declared.position.Position.{Position}
use Rattle.gba_ppu_reg.specs.Position.{after_cycles, cycle, distance, first_cycle, following_line}

-- the place after so many cycles, fewer than a line has
abbrev pub line_at : ℕ → ℕ → ℕ → ℕ
line_at line dot count = if nat_lt (dot + count) 1232 then line else following_line line

abbrev pub dot_at : ℕ → ℕ → ℕ
dot_at dot count = if nat_lt (dot + count) 1232 then dot + count else dot + count - 1232

abbrev pub moved : ℕ → Position → Position
moved count p = record { line = line_at p.line p.dot count; dot = dot_at p.dot count }

line_at-none : (line dot : ℕ) → dot < 1232 → line ≡ line_at line dot 0
line_at-none line dot h = grind arith

dot_at-none : (dot : ℕ) → dot < 1232 → dot ≡ dot_at dot 0
dot_at-none dot h = grind arith

line_at-next : (line dot count : ℕ) → dot < 1232 → count + 1 < 1232
    → (if dot_at dot count + 1 == 1232 then following_line (line_at line dot count) else line_at line dot count)
    ≡ line_at line dot (count + 1)
line_at-next line dot count h k = grind arith

dot_at-next : (dot count : ℕ) → dot < 1232 → count + 1 < 1232
    → (if dot_at dot count + 1 == 1232 then 0 else dot_at dot count + 1) ≡ dot_at dot (count + 1)
dot_at-next dot count h k = grind arith

after_cycles-none : (p : Position) → after_cycles 0 p ≡ p
unfolding after_cycles
after_cycles-none p = refl

after_cycles-more : (count : ℕ) (p : Position) → after_cycles (suc count) p ≡ cycle (after_cycles count p)
unfolding after_cycles
after_cycles-more count p = refl

pub moved_is : (count : ℕ) (p : Position) → p.dot < 1232 → count < 1232 → after_cycles count p ≡ moved count p
moved_is zero p h k =
    after_cycles-none p ∙ (λ i. record { line = line_at-none p.line p.dot h i; dot = dot_at-none p.dot h i })
moved_is (suc count) p h k =
    after_cycles-more count p
    ∙ ap cycle (moved_is count p h (omega arith))
    ∙ (λ i. record {
      line = line_at-next p.line p.dot count h (omega arith) i;
      dot = dot_at-next p.dot count h (omega arith) i;
    })
    ∙ ap (λ n. moved n p) (add-one count)

-- within the line, and past its end
line_at-same : (line dot count : ℕ) → dot + count < 1232 → line ≡ line_at line dot count
line_at-same line dot count k = grind arith

dot_at-same : (dot count : ℕ) → dot + count < 1232 → dot + count ≡ dot_at dot count
dot_at-same dot count k = grind arith

line_at-past : (line next dot count : ℕ) → next ≡ following_line line → 1232 ≤ dot + count
    → next ≡ line_at line dot count
line_at-past line next dot count e k = grind arith

dot_at-past : (dot count : ℕ) → 1232 ≤ dot + count → dot + count - 1232 ≡ dot_at dot count
dot_at-past dot count k = grind arith

pub within_line : (count : ℕ) (p : Position) → p.dot + count < 1232
    → ◌≡◌ {A = Position} (record { line = p.line; dot = p.dot + count }) (after_cycles count p)
within_line count p k =
    (λ i. record { line = line_at-same p.line p.dot count k i; dot = dot_at-same p.dot count k i })
    ∙ sym (moved_is count p (omega arith) (omega arith))

pub past_line : (count next : ℕ) (p : Position) → p.dot < 1232 → count < 1232 → next ≡ following_line p.line
    → 1232 ≤ p.dot + count
    → ◌≡◌ {A = Position} (record { line = next; dot = p.dot + count - 1232 }) (after_cycles count p)
past_line count next p h k e past =
    (λ i. record { line = line_at-past p.line next p.dot count e past i; dot = dot_at-past p.dot count past i })
    ∙ sym (moved_is count p h k)

-- the cycle that comes to a dot is as many cycles away as the dot
abbrev pub arrival : ℕ → ℕ → Option ℕ
arrival away count = if nat_le away count then Some away else None

first_cycle-none : (dot : ℕ) (p : Position) → first_cycle dot 0 p ≡ None
unfolding first_cycle
first_cycle-none dot p = refl

first_cycle-more : (dot count : ℕ) (p : Position)
    → first_cycle dot (suc count) p
    ≡ option_or (first_cycle dot count p) (if (after_cycles (suc count) p).dot == dot then Some (suc count) else None)
unfolding first_cycle
first_cycle-more dot count p = refl

arrival-none : (away : ℕ) → 1 ≤ away → None ≡ arrival away 0
arrival-none away h = grind arith

arrival-next_by : (away count : ℕ) (before now : Bool) → nat_le away count ≡ before → nat_eq away (count + 1) ≡ now
    → option_or (if before then Some away else None) (if now then Some (count + 1) else None) ≡ arrival away (count + 1)
arrival-next_by away count true now b n = grind arith
arrival-next_by away count false true b n = grind arith
arrival-next_by away count false false b n = grind arith

arrival-next : (away count : ℕ)
    → option_or (arrival away count) (if away == count + 1 then Some (count + 1) else None) ≡ arrival away (count + 1)
arrival-next away count = arrival-next_by away count (nat_le away count) (nat_eq away (count + 1)) refl refl

comes : (dot count : ℕ) (p : Position) → dot < 1232 → p.dot < 1232 → 1 ≤ count → count < 1232
    → nat_eq (dot_at p.dot count) dot ≡ nat_eq (distance dot p) count
comes dot count p t h low k = grind arith

pub comes_at : (dot count : ℕ) (p : Position) → dot < 1232 → p.dot < 1232 → 1 ≤ count → count < 1232
    → nat_eq (after_cycles count p).dot dot ≡ nat_eq (distance dot p) count
comes_at dot count p t h low k =
    ap (λ (q : Position). nat_eq q.dot dot) (moved_is count p h k) ∙ comes dot count p t h low k

away : (dot : ℕ) (p : Position) → p.dot < 1232 → 1 ≤ distance dot p
away dot p h = grind arith

pub first_cycle_is : (dot count : ℕ) (p : Position) → dot < 1232 → p.dot < 1232 → count < 1232
    → first_cycle dot count p ≡ arrival (distance dot p) count
first_cycle_is dot zero p t h k = first_cycle-none dot p ∙ arrival-none (distance dot p) (away dot p h)
first_cycle_is dot (suc count) p t h k =
    first_cycle-more dot count p
    ∙ ap (λ o. option_or o (if (after_cycles (suc count) p).dot == dot then Some (suc count) else None))
    (first_cycle_is dot count p t h (omega arith))
    ∙ ap (λ q. option_or (arrival (distance dot p) count) (if q.dot == dot then Some (suc count) else None))
    (moved_is (suc count) p h k)
    ∙ ap (λ b. option_or (arrival (distance dot p) count) (if b then Some (suc count) else None))
    (comes dot (suc count) p t h (omega arith) k)
    ∙ ap (λ n. option_or (arrival (distance dot p) count) (if distance dot p == n then Some n else None))
    (sym (add-one count))
    ∙ arrival-next (distance dot p) count
    ∙ ap (λ n. arrival (distance dot p) n) (add-one count)

arrival-some : (away count : ℕ) → away ≤ count → Some away ≡ arrival away count
arrival-some away count h = grind arith

arrival-late : (away count : ℕ) → count < away → None ≡ arrival away count
arrival-late away count h = grind arith

pub comes_within : (away dot count : ℕ) (p : Position) → dot < 1232 → p.dot < 1232 → count < 1232
    → away ≡ distance dot p → away ≤ count → Some away ≡ first_cycle dot count p
comes_within away dot count p t h k e le =
    arrival-some away count le ∙ ap (λ n. arrival n count) e ∙ sym (first_cycle_is dot count p t h k)

pub comes_later : (away dot count : ℕ) (p : Position) → dot < 1232 → p.dot < 1232 → count < 1232 → away ≡ distance dot p
    → count < away → None ≡ first_cycle dot count p
comes_later away dot count p t h k e lt =
    arrival-late away count lt ∙ ap (λ n. arrival n count) e ∙ sym (first_cycle_is dot count p t h k)

dot_at-once : (dot first second : ℕ) → dot < 1232 → first < 1232 → second < 1232 → dot_at dot first ≡ dot_at dot second
    → first ≡ second
dot_at-once dot first second h a b e = grind arith

pub once : (first second : ℕ) (p : Position) → p.dot < 1232 → first < 1232 → second < 1232
    → (after_cycles first p).dot ≡ (after_cycles second p).dot → first ≡ second
once first second p h a b e =
    dot_at-once p.dot first second h a b
    (sym (ap (λ q. q.dot) (moved_is first p h a)) ∙ e ∙ ap (λ q. q.dot) (moved_is second p h b))
