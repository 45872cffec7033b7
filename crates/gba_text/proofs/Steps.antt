-- What steps that are read one after another gave.
use Rattle.std.proofs.Common.{◌≡◌, Bool, true, false, Option, Some, None, Result, Ok, Err, refl, ap}
use Rattle.gba_text.specs.Steps.{◌>>=◌, holds, Taken, taken, or_refused}

-- what a step and the steps after it gave, if they gave anything
abbrev pub Gave : {A B K : Type 0} → Result A K → (A → Result B K) → B → Type 0
Gave {A = A} r f y = (x : A) × (r ≡ Ok x) × (f x ≡ Ok y)

pub bind-ok : {A B K : Type 0} (r : Result A K) (f : A → Result B K) (y : B) → (r >>= f) ≡ Ok y → Gave r f y
bind-ok (Ok x) f y h = (x, refl, h)
bind-ok (Err kind) f y h = absurd cc

pub ok-is : {A E : Type 0} (x y : A) → ◌≡◌ {A = Result A E} (Ok x) (Ok y) → x ≡ y
ok-is x y h = cc

pub some-is : {A : Type 0} (x y : A) → Some x ≡ Some y → x ≡ y
some-is x y h = cc

pub held-true : {K : Type 0} (b : Bool) (kind : K) (x : Bool) → holds b kind ≡ Ok x → b ≡ true
held-true true kind x h = refl
held-true false kind x h = absurd cc

pub or_refused-some : {L T K : Type 0} (kind : K) (left : L) (o : Option T) (t : Taken L T)
    → or_refused kind left o ≡ Ok t → o ≡ Some t.value
or_refused-some {L} {T} kind left (Some x) t h =
    let same : taken x left ≡ t = cc in ap (λ (t : Taken L T). Some t.value) same
or_refused-some kind left None t h = absurd cc
