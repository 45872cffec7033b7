-- The loops over the items of data.
use Rattle.std.proofs.Common.{◌≡◌, ◌≤◌, ℕ, ◌+◌, Bool, false, not, List, [], ◌∷◌, ◌++◌, length, Some, None, Result, Ok, Err, refl, sym, ap, ◌∙◌, append_assoc, arith}
use Rattle.std.proofs.lemmas.List.{append-nil}
use Rattle.gba_text.specs.Steps.{◌>>=◌}
use Rattle.gba_asm_words.specs.declared.kinds.AsmKind.{AsmKind}
use Rattle.gba_asm_words.specs.Readers.{first_token, other_tokens}
use Rattle.gba_asm_words.specs.Tokens.{Token, Word, Mark}
use Rattle.gba_asm.specs.declared.directives.Width.{Width}
use Rattle.gba_asm.specs.declared.kinds.LineRefused.{LineRefused}
use Rattle.gba_asm.specs.declared.kinds.LineRefused.TheVariants as line
use Rattle.gba_asm.specs.Answers.{Adds, onto}
use Rattle.gba_asm.specs.Directives.{are_items, next_due, count_words}
use Rattle.gba_asm.specs.Encoding.{items_bytes, item_bytes}
use Rattle.gba_asm.specs.Places.{Labels}

pub are_items-end : (w : Width) (due : Bool) (ts : List Token) → None ≡ first_token ts → are_items w due ts ≡ not due
unfolding are_items
are_items-end w due [] e = refl
are_items-end w due (t ∷ ts) e = absurd cc

pub are_items-more : (w : Width) (due next : Bool) (old new : List Token) (t : Token) → Some t ≡ first_token old
    → new ≡ other_tokens old → next_due w due t ≡ Some next → are_items w due old ≡ are_items w next new
unfolding are_items
are_items-more w due next [] new t first rest step = absurd cc
are_items-more w due next (u ∷ old) new t first rest step =
    let same : t ≡ u = cc in
    rw (rest, ← same, step) refl

pub are_items-refused : (w : Width) (due : Bool) (old : List Token) (t : Token) → Some t ≡ first_token old
    → next_due w due t ≡ None → are_items w due old ≡ false
unfolding are_items
are_items-refused w due [] t first step = absurd cc
are_items-refused w due (u ∷ old) t first step =
    let same : t ≡ u = cc in
    rw (← same, step) refl

-- so many words are counted, and these tokens are left
pub record IsCounting (count : ℕ) (left all : List Token) : Type 0 where
  pub counted : count + count_words left ≡ count_words all
  pub few : count + length left ≤ 400

pub counts_end : (count : ℕ) (left all : List Token) → IsCounting count left all → None ≡ first_token left
    → count ≡ count_words all
unfolding count_words
counts_end count [] all h e = omega (arith, h.counted)
counts_end count (t ∷ ts) all h e = absurd cc

pub counts_word : (count : ℕ) (old new all : List Token) (word : List ℕ) → IsCounting count old all
    → Some (Word word) ≡ first_token old → new ≡ other_tokens old → IsCounting (count + 1) new all
unfolding count_words
counts_word count [] new all word h first rest = absurd cc
counts_word count (u ∷ old) new all word h first rest =
    let same : u ≡ Word word = cc in
    let here : IsCounting count (Word word ∷ old) all = rw same at h in
    rw rest (record { counted = omega (arith, here.counted); few = omega (arith, here.few) })

pub counts_mark : (count : ℕ) (old new all : List Token) (mark : ℕ) → IsCounting count old all
    → Some (Mark mark) ≡ first_token old → new ≡ other_tokens old → IsCounting count new all
unfolding count_words
counts_mark count [] new all mark h first rest = absurd cc
counts_mark count (u ∷ old) new all mark h first rest =
    let same : u ≡ Mark mark = cc in
    let here : IsCounting count (Mark mark ∷ old) all = rw same at h in
    rw rest (record { counted = here.counted; few = omega (arith, here.few) })

pub items_bytes-end : (labels : Labels) (w : Width) (ts : List Token) (image : List ℕ) → None ≡ first_token ts
    → onto image (items_bytes labels w ts) ≡ Ok image
unfolding items_bytes
items_bytes-end labels w [] image e = ap Ok (append-nil image)
items_bytes-end labels w (t ∷ ts) image e = absurd cc

by_item : (r more : Result (List ℕ) AsmKind) (image after : List ℕ) → onto image r ≡ Ok after
    → onto image (r >>= (λ bytes. more >>= (λ rest. Ok (bytes ++ rest)))) ≡ onto after more
by_item (Ok bytes) (Ok rest) image after h =
    let same : image ++ bytes ≡ after = cc in
    ap Ok (sym (append_assoc image bytes rest) ∙ ap (λ front. front ++ rest) same)
by_item (Ok bytes) (Err kind) image after h = refl
by_item (Err kind) more image after h = absurd cc

pub items_bytes-word : (labels : Labels) (w : Width) (old new : List Token) (word image after : List ℕ)
    → Some (Word word) ≡ first_token old → new ≡ other_tokens old
    → onto image (item_bytes labels w word) ≡ Ok after
    → onto image (items_bytes labels w old) ≡ onto after (items_bytes labels w new)
unfolding items_bytes
items_bytes-word labels w [] new word image after first rest step = absurd cc
items_bytes-word labels w (u ∷ old) new word image after first rest step =
    let same : u ≡ Word word = cc in
    rw (rest, same) (by_item (item_bytes labels w word) (items_bytes labels w old) image after step)

pub items_bytes-refused : (labels : Labels) (w : Width) (old : List Token) (word : List ℕ) (kind : AsmKind)
    → Some (Word word) ≡ first_token old → item_bytes labels w word ≡ Err kind → items_bytes labels w old ≡ Err kind
unfolding items_bytes
items_bytes-refused labels w [] word kind first step = absurd cc
items_bytes-refused labels w (u ∷ old) word kind first step =
    let same : u ≡ Word word = cc in
    rw (same, step) refl

pub items_bytes-mark : (labels : Labels) (w : Width) (old new : List Token) (mark : ℕ) (image : List ℕ)
    → Some (Mark mark) ≡ first_token old → new ≡ other_tokens old
    → onto image (items_bytes labels w old) ≡ onto image (items_bytes labels w new)
unfolding items_bytes
items_bytes-mark labels w [] new mark image first rest = absurd cc
items_bytes-mark labels w (u ∷ old) new mark image first rest =
    let same : u ≡ Mark mark = cc in
    rw (rest, same) refl

refusal_of : (left all : Result (List ℕ) AsmKind) (first image : List ℕ) (kind : AsmKind)
    → onto first all ≡ onto image left → left ≡ Err kind → all ≡ Err kind
refusal_of left (Err e) first image kind h e' = cc
refusal_of (Err e) (Ok bytes) first image kind h e' = absurd cc
refusal_of (Ok rest) (Ok bytes) first image kind h e' = absurd cc

-- the refusal of an item is that of all items
pub adds_refused : (r : LineRefused) (labels : Labels) (w : Width) (all left : List Token)
    (word first image after : List ℕ)
    → onto first (items_bytes labels w all) ≡ onto image (items_bytes labels w left)
    → Some (Word word) ≡ first_token left → Adds {T = Unit {0}} (Err r) image after (item_bytes labels w word)
    → Adds {T = Unit {0}} (Err r) first after (items_bytes labels w all)
adds_refused (line.Kind kind) labels w all left word first image after h token refused =
    refusal_of (items_bytes labels w left) (items_bytes labels w all) first image kind h
    (items_bytes-refused labels w left word kind token refused)
adds_refused line.NoMemory labels w all left word first image after h token refused = tt
