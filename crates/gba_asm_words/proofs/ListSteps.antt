-- The steps of a list.
use Rattle.std.proofs.Common.{◌≡◌, true, false, List, [], ◌∷◌, Some, None, Ok, Err, refl}
use Rattle.gba_text.specs.Steps.{taken}
use Rattle.gba_asm_words.specs.declared.kinds.AsmKind.{AsmKind}
use Rattle.gba_asm_words.specs.declared.kinds.AsmKind.TheVariants.{Operand}
use Rattle.gba_asm_words.specs.declared.lists.ListState.{ListState}
use Rattle.gba_asm_words.specs.Lists.{list_from, list_step, is_closed}
use Rattle.gba_asm_words.specs.Readers.{first_token, other_tokens}
use Rattle.gba_asm_words.specs.Tokens.{Token}

pub list_from-closed : (s : ListState) (ts : List Token) → is_closed s.place ≡ true
    → list_from s ts ≡ Ok (taken s.list ts)
unfolding list_from
list_from-closed s [] h = rw h refl
list_from-closed s (t ∷ ts) h = rw h refl

pub list_from-short : (s : ListState) (ts : List Token) → is_closed s.place ≡ false → None ≡ first_token ts
    → list_from s ts ≡ Err Operand
unfolding list_from
list_from-short s [] h none = rw h refl
list_from-short s (t ∷ ts) h none = absurd cc

pub list_from-more : (s next : ListState) (old new : List Token) (t : Token) → is_closed s.place ≡ false
    → Some t ≡ first_token old → new ≡ other_tokens old → list_step s t ≡ Ok next
    → list_from s old ≡ list_from next new
unfolding list_from
list_from-more s next [] new t h first rest step = absurd cc
list_from-more s next (u ∷ old) new t h first rest step =
    let same : t ≡ u = cc in
    rw (h, rest, ← same, step) refl

pub list_from-refused : (s : ListState) (old : List Token) (t : Token) (kind : AsmKind) → is_closed s.place ≡ false
    → Some t ≡ first_token old → list_step s t ≡ Err kind → list_from s old ≡ Err kind
unfolding list_from
list_from-refused s [] t kind h first step = absurd cc
list_from-refused s (u ∷ old) t kind h first step =
    let same : t ≡ u = cc in
    rw (h, ← same, step) refl
