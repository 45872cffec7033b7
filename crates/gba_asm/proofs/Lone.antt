-- A line by itself: where the next one stands after it, and its bytes whatever its number.
use Rattle.std.proofs.Common.{◌≡◌, ◌<◌, ℕ, ◌+◌, ◌*◌, ◌^◌, ◌%◌, Bool, true, false, cond, not, List, [], ◌∷◌, ◌++◌, length, replicate, Option, Some, None, option_map, Result, Ok, refl, sym, ap, ◌∙◌, subst, append_assoc, length-append, codes, ◌≤◌, lt-ltb, le-leb, arith}
use Rattle.std.specs.Int.{w16, w32, to_le_bytes}
use Rattle.std.proofs.lemmas.List.{append-nil, length-replicate}
use Rattle.gba_text.specs.Languages.{lines_say}
use Rattle.gba_text.specs.Lines.{lines}
use Rattle.gba_text.proofs.Languages.{answer_of-lines, lines_say-end, lines_say-more}
use Rattle.gba_text.proofs.Steps.{bind-ok, held-true}
use Rattle.gba_thumb_table.specs.Encoding.{encoding as thumb_encoding}
use Rattle.gba_text.specs.Steps.{◌>>=◌, holds}
use Rattle.gba_asm_words.specs.declared.kinds.AsmKind.{AsmKind}
use Rattle.gba_asm_words.specs.declared.kinds.AsmKind.TheVariants as kind
use Rattle.gba_asm_words.specs.Numbers.{number_of}
use Rattle.gba_asm_words.specs.Readers.{Address, target_of}
use Rattle.gba_asm_words.specs.Tokens.{Token, Word, Mark}
use Rattle.gba_asm_thumb.specs.declared.placing.ThumbOps.{ThumbOps}
use Rattle.gba_asm_thumb.specs.declared.placing.ThumbOps.TheVariants.{One, Two}
use Rattle.gba_thumb_table.specs.declared.operation.ThumbOp.{ThumbOp}
use Rattle.gba_asm_thumb.specs.Forms.{thumb_statement}
use Rattle.gba_asm_thumb.specs.Placing as thumb_placing
use Rattle.gba_asm_thumb.specs.Statement as thumb
use Rattle.gba_asm.specs.declared.directives.Width.{Width}
use Rattle.gba_asm.specs.declared.directives.Width.TheVariants as width
use Rattle.gba_asm.specs.declared.places.Place.{Place}
use Rattle.gba_asm.specs.Assembly.{Assembled, assembly_of, line_bytes, lone_bytes, longest_source, sources}
use Rattle.gba_asm.specs.Directives.{are_items, width_size, count_words, directive_of}
use Rattle.gba_asm.specs.Encoding.{item_bytes, items_bytes, statement_bytes, arm_word, thumb_code, thumb_bytes, encoded, aligned, in_range, address_in, address_of, below, or_operand}
use Rattle.gba_asm.specs.Places.{Labels, labels_from, labels_of, no_labels, start, fits, place_after, past_statement, after_statement, state_after, is_repeated}
use Rattle.gba_asm.specs.Statements.{Statement, Nothing, Mode, Data, Space, Align, Arm, Thumb, line_says, label_of, size_of, padding, directive_form, statement_of}
use Rattle.gba_asm.proofs.Passes.{given_line}

item_size : (f : Labels) (w : Width) (word bytes : List ℕ) → item_bytes f w word ≡ Ok bytes
    → length bytes ≡ width_size w
unfolding item_bytes
item_size f width.Word word bytes h =
    let g = bind-ok (or_operand (target_of word) >>= address_of f) _ bytes h in
    let same : to_le_bytes w32 g.0 ≡ bytes = cc (g.2) in
    sym (ap length same)
item_size f width.Half word bytes h =
    let g = bind-ok (or_operand (number_of word) >>= below (2 ^ 16)) _ bytes h in
    let same : to_le_bytes w16 g.0 ≡ bytes = cc (g.2) in
    sym (ap length same)
item_size f width.Byte word bytes h =
    let g = bind-ok (or_operand (number_of word) >>= below (2 ^ 8)) _ bytes h in
    let same : g.0 ∷ [] ≡ bytes = cc (g.2) in
    sym (ap length same)

items_size : (f : Labels) (w : Width) (items : List Token) (bytes : List ℕ) → items_bytes f w items ≡ Ok bytes
    → length bytes ≡ width_size w * count_words items
unfolding items_bytes count_words
items_size f w [] bytes h =
    let same : [] ≡ bytes = cc in
    grind (arith, ap length same)
items_size f w (Mark m ∷ items) bytes h = items_size f w items bytes h
items_size f w (Word word ∷ items) bytes h =
    let g = bind-ok (item_bytes f w word) _ bytes h in
    let g' = bind-ok (items_bytes f w items) _ bytes g.2 in
    let same : g.0 ++ g'.0 ≡ bytes = cc (g'.2) in
    let first = item_size f w word g.0 g.1 in
    let rest = items_size f w items g'.0 g'.1 in
    omega (arith, ap length same, length-append g.0 g'.0, first, rest)

ops_size : (ops : ThumbOps) → ℕ
ops_size (One op) = 2
ops_size (Two first second) = 4

half_size : (ops : ThumbOps) (bytes : List ℕ) → thumb_bytes ops ≡ Ok bytes → length bytes ≡ ops_size ops
unfolding ops_size
half_size (One op) bytes h =
    let g = bind-ok (encoded (thumb_encoding op)) _ bytes h in
    let same : to_le_bytes w16 g.0 ≡ bytes = cc (g.2) in
    sym (ap length same)
half_size (Two first second) bytes h =
    let g = bind-ok (encoded (thumb_encoding first)) _ bytes h in
    let g' = bind-ok (encoded (thumb_encoding second)) _ bytes g.2 in
    let same : to_le_bytes w16 g.0 ++ to_le_bytes w16 g'.0 ≡ bytes = cc (g'.2) in
    sym (ap length same)

mapped_size : {A : Type 0} (o : Option A) (g : A → ThumbOps) (ops : ThumbOps) (n : ℕ) → ((x : A) → ops_size (g x) ≡ n)
    → option_map g o ≡ Some ops → ops_size ops ≡ n
mapped_size (Some x) g ops n each h =
    let same : g x ≡ ops = cc in
    subst (λ o. ops_size o ≡ n) same (each x)
mapped_size None g ops n each h = absurd cc

placed_size : (address target : ℕ) (s : thumb.ThumbStatement) (ops : ThumbOps)
    → thumb_placing.operations_at address target s ≡ Some ops → ops_size ops ≡ thumb_placing.size_of s
unfolding thumb_placing.operations_at ops_size
placed_size address target (thumb.Operation op) ops h = mapped_size op _ ops 2 (λ x. refl) h
placed_size address target (thumb.Branch t) ops h = mapped_size _ _ ops 2 (λ x. refl) h
placed_size address target (thumb.BranchIf cond t) ops h = mapped_size _ _ ops 2 (λ x. refl) h
placed_size address target (thumb.Call t) ops h = mapped_size _ _ ops 4 (λ x. refl) h

was_in_range : {T : Type 0} (o : Option T) (x : T) → in_range o ≡ Ok x → o ≡ Some x
was_in_range (Some y) x h = cc
was_in_range None x h = absurd cc

thumb_statement_size : (f : Labels) (address : ℕ) (s : thumb.ThumbStatement) (bytes : List ℕ)
    → thumb_code f address s ≡ Ok bytes → length bytes ≡ thumb_placing.size_of s
unfolding thumb_code
thumb_statement_size f address s bytes h =
    let t = bind-ok (address_in f (thumb_placing.target_of s)) _ bytes h in
    let a = bind-ok (aligned 2 address) _ bytes t.2 in
    let o = bind-ok (in_range (thumb_placing.operations_at address t.0 s)) _ bytes a.2 in
    half_size o.0 bytes o.2 ∙ placed_size address t.0 s o.0 (was_in_range _ _ o.1)

-- a statement has as many bytes as its size says
pub bytes_size : (f : Labels) (address : ℕ) (s : Statement) (bytes : List ℕ) → statement_bytes f address s ≡ Ok bytes
    → length bytes ≡ size_of address s
unfolding statement_bytes size_of
bytes_size f address Nothing bytes h =
    let same : [] ≡ bytes = cc in
    sym (ap length same)
bytes_size f address (Mode thumb) bytes h =
    let same : [] ≡ bytes = cc in
    sym (ap length same)
bytes_size f address (Data w items) bytes h =
    let g = bind-ok (items_bytes f w items) _ bytes h in
    let g' = bind-ok (aligned (width_size w) address) _ bytes g.2 in
    let same : g.0 ≡ bytes = cc (g'.2) in
    sym (ap length same) ∙ items_size f w items g.0 g.1
bytes_size f address (Space count) bytes h =
    let same : replicate count 0 ≡ bytes = cc in
    sym (ap length same) ∙ length-replicate count 0
bytes_size f address Align bytes h =
    let same : replicate (padding address) 0 ≡ bytes = cc in
    sym (ap length same) ∙ length-replicate (padding address) 0
bytes_size f address (Arm s) bytes h =
    let g = bind-ok (arm_word f address s) _ bytes h in
    let same : to_le_bytes w32 g.0 ≡ bytes = cc (g.2) in
    sym (ap length same)
bytes_size f address (Thumb s) bytes h = thumb_statement_size f address s bytes h

-- a statement with bytes leaves the state
stays : (f : Labels) (address : ℕ) (s : Statement) (bytes : List ℕ) (thumb : Bool)
    → statement_bytes f address s ≡ Ok bytes → 0 < length bytes → state_after thumb s ≡ thumb
unfolding statement_bytes
stays f address Nothing bytes thumb h some = refl
stays f address (Mode state) bytes thumb h some =
    let same : [] ≡ bytes = cc in
    absurd (omega (arith, ap length same, some))
stays f address (Data w items) bytes thumb h some = refl
stays f address (Space count) bytes thumb h some = refl
stays f address Align bytes thumb h some = refl
stays f address (Arm s) bytes thumb h some = refl
stays f address (Thumb s) bytes thumb h some = refl

-- The line gives these bytes in a source without labels, whatever its number, and the next line stands behind them.
pub record IsLone (thumb : Bool) (address : ℕ) (line bytes : List ℕ) : Type 0 where
  pub given : (number : ℕ) → line_bytes no_labels number (record { address = address; thumb = thumb }) line ≡ Ok bytes
  pub next : place_after (record { address = address; thumb = thumb }) line
      ≡ record { address = address + length bytes; thumb = thumb }

after_by : (p : Place) (r : Result Statement AsmKind) (s : Statement) → r ≡ Ok s
    → fits p.address (size_of p.address s) ≡ true → past_statement p r ≡ after_statement p s
after_by p r s e h = rw (e, h) refl

given_by : (number : ℕ) (p : Place) (line : List ℕ) (s : Statement) (bytes : List ℕ) → line_says p.thumb line ≡ Ok s
    → fits p.address (size_of p.address s) ≡ true → label_of line ≡ None
    → statement_bytes no_labels p.address s ≡ Ok bytes → line_bytes no_labels number p line ≡ Ok bytes
unfolding line_bytes
given_by number p line s bytes said inside none h = rw (said, inside, none) h

pub lone : (thumb : Bool) (address : ℕ) (line bytes : List ℕ) → lone_bytes thumb address line ≡ Ok bytes
    → label_of line ≡ None → 0 < length bytes → IsLone thumb address line bytes
unfolding lone_bytes line_bytes place_after
lone thumb address line bytes h none some =
    let p : Place = record { address = address; thumb = thumb } in
    let s = bind-ok (line_says thumb line) _ bytes h in
    let room = bind-ok (holds (fits address (size_of address s.0)) kind.Size) _ bytes s.2 in
    let once = bind-ok (holds (not (is_repeated no_labels 1 (label_of line))) kind.Repeated) _ bytes room.2 in
    let inside = held-true _ _ _ room.1 in
    let size = bytes_size no_labels address s.0 bytes once.2 in
    record {
      given = λ number. given_by number p line s.0 bytes s.1 inside none once.2;
      next = after_by p (line_says thumb line) s.0 s.1 inside
          ∙ rw (← size, stays no_labels address s.0 bytes thumb once.2 some) refl;
    }

-- Tokens that say a statement with these bytes at this address.
pub record Tells (thumb : Bool) (address : ℕ) (tokens : List Token) (bytes : List ℕ) : Type 0 where
  pub statement : Statement
  pub said : statement_of thumb tokens ≡ Ok statement
  pub inside : fits address (size_of address statement) ≡ true
  pub given : statement_bytes no_labels address statement ≡ Ok bytes

-- a line with these tokens gives the bytes
pub told : (thumb : Bool) (address : ℕ) (line : List ℕ) (tokens : List Token) (bytes : List ℕ)
    → line_says thumb line ≡ statement_of thumb tokens → label_of line ≡ None → Tells thumb address tokens bytes
    → lone_bytes thumb address line ≡ Ok bytes
unfolding lone_bytes
told thumb address line tokens bytes same none t =
    given_by 1 (record { address = address; thumb = thumb }) line t.statement bytes (same ∙ t.said) t.inside
    none t.given

word_target : (word : List ℕ) (n : ℕ) → number_of word ≡ Some n → target_of word ≡ Some (Address n)
unfolding target_of
word_target word n h = rw h refl

word_says : (thumb : Bool) (word : List ℕ) (n : ℕ) → target_of word ≡ Some (Address n)
    → statement_of thumb (Word (codes ".word") ∷ Word word ∷ []) ≡ Ok (Data width.Word (Word word ∷ []))
unfolding statement_of directive_of directive_form are_items
word_says thumb word n h = rw h refl

word_gives : (address : ℕ) (word : List ℕ) (n : ℕ) → target_of word ≡ Some (Address n) → address % 4 ≡ 0
    → statement_bytes no_labels address (Data width.Word (Word word ∷ [])) ≡ Ok (to_le_bytes w32 n)
unfolding statement_bytes items_bytes item_bytes
word_gives address word n h a = rw (h, a) refl

fits_by : (address size : ℕ) → address + size ≤ 33554432 → fits address size ≡ true
fits_by address size h = le-leb _ _ h

-- `.word` and a number
pub word_line : (thumb : Bool) (address : ℕ) (word : List ℕ) (n : ℕ) → number_of word ≡ Some n → address % 4 ≡ 0
    → address + 4 ≤ 33554432 → Tells thumb address (Word (codes ".word") ∷ Word word ∷ []) (to_le_bytes w32 n)
unfolding size_of count_words
word_line thumb address word n h a room =
    let t = word_target word n h in
    record {
      statement = Data width.Word (Word word ∷ []);
      said = word_says thumb word n t;
      inside = fits_by address 4 room;
      given = word_gives address word n t a;
    }

half_says : (thumb : Bool) (word : List ℕ) (n : ℕ) → number_of word ≡ Some n
    → statement_of thumb (Word (codes ".half") ∷ Word word ∷ []) ≡ Ok (Data width.Half (Word word ∷ []))
unfolding statement_of directive_of directive_form are_items
half_says thumb word n h = rw h refl

half_gives : (address : ℕ) (word : List ℕ) (n : ℕ) → number_of word ≡ Some n → n < 2 ^ 16 → address % 2 ≡ 0
    → statement_bytes no_labels address (Data width.Half (Word word ∷ [])) ≡ Ok (to_le_bytes w16 n)
unfolding statement_bytes items_bytes item_bytes
half_gives address word n h small a = rw (h, lt-ltb _ _ small, a) refl

-- `.half` and a number
pub half_line : (thumb : Bool) (address : ℕ) (word : List ℕ) (n : ℕ) → number_of word ≡ Some n → n < 2 ^ 16
    → address % 2 ≡ 0 → address + 2 ≤ 33554432
    → Tells thumb address (Word (codes ".half") ∷ Word word ∷ []) (to_le_bytes w16 n)
unfolding size_of count_words
half_line thumb address word n h small a room = record {
  statement = Data width.Half (Word word ∷ []);
  said = half_says thumb word n h;
  inside = fits_by address 2 room;
  given = half_gives address word n h small a;
}

halves_say : (thumb : Bool) (v w : List ℕ) (m n : ℕ) → number_of v ≡ Some m → number_of w ≡ Some n
    → statement_of thumb (Word (codes ".half") ∷ Word v ∷ Mark 44 ∷ Word w ∷ [])
    ≡ Ok (Data width.Half (Word v ∷ Mark 44 ∷ Word w ∷ []))
unfolding statement_of directive_of directive_form are_items
halves_say thumb v w m n h k = rw (h, k) refl

halves_give : (address : ℕ) (v w : List ℕ) (m n : ℕ) → number_of v ≡ Some m → number_of w ≡ Some n → m < 2 ^ 16
    → n < 2 ^ 16 → address % 2 ≡ 0
    → statement_bytes no_labels address (Data width.Half (Word v ∷ Mark 44 ∷ Word w ∷ []))
    ≡ Ok (to_le_bytes w16 m ++ to_le_bytes w16 n)
unfolding statement_bytes items_bytes item_bytes
halves_give address v w m n h k small low a = rw (h, lt-ltb _ _ small, k, lt-ltb _ _ low, a) refl

-- `.half` and two numbers
pub halves_line : (thumb : Bool) (address : ℕ) (v w : List ℕ) (m n : ℕ) → number_of v ≡ Some m → number_of w ≡ Some n
    → m < 2 ^ 16 → n < 2 ^ 16 → address % 2 ≡ 0 → address + 4 ≤ 33554432
    → Tells thumb address (Word (codes ".half") ∷ Word v ∷ Mark 44 ∷ Word w ∷ [])
    (to_le_bytes w16 m ++ to_le_bytes w16 n)
unfolding size_of count_words
halves_line thumb address v w m n h k small low a room = record {
  statement = Data width.Half (Word v ∷ Mark 44 ∷ Word w ∷ []);
  said = halves_say thumb v w m n h k;
  inside = fits_by address 4 room;
  given = halves_give address v w m n h k small low a;
}

byte_says : (thumb : Bool) (word : List ℕ) (n : ℕ) → number_of word ≡ Some n
    → statement_of thumb (Word (codes ".byte") ∷ Word word ∷ []) ≡ Ok (Data width.Byte (Word word ∷ []))
unfolding statement_of directive_of directive_form are_items
byte_says thumb word n h = rw h refl

byte_gives : (address : ℕ) (word : List ℕ) (n : ℕ) → number_of word ≡ Some n → n < 2 ^ 8
    → statement_bytes no_labels address (Data width.Byte (Word word ∷ [])) ≡ Ok (n ∷ [])
unfolding statement_bytes items_bytes item_bytes
byte_gives address word n h small =
    let unit : address % 1 ≡ 0 = omega arith in
    rw (h, lt-ltb _ _ small, unit) refl

-- `.byte` and a number
pub byte_line : (thumb : Bool) (address : ℕ) (word : List ℕ) (n : ℕ) → number_of word ≡ Some n → n < 2 ^ 8
    → address + 1 ≤ 33554432 → Tells thumb address (Word (codes ".byte") ∷ Word word ∷ []) (n ∷ [])
unfolding size_of count_words
byte_line thumb address word n h small room = record {
  statement = Data width.Byte (Word word ∷ []);
  said = byte_says thumb word n h;
  inside = fits_by address 1 room;
  given = byte_gives address word n h small;
}

-- lines by themselves, one after another from this address on, with these bytes in all
abbrev pub AreLone : Bool → ℕ → List (List ℕ) → List ℕ → Type 0
AreLone thumb address [] bytes = bytes ≡ []
AreLone thumb address (line ∷ lines) bytes =
    (first : List ℕ) × (rest : List ℕ) × IsLone thumb address line first × (label_of line ≡ None)
    × AreLone thumb (address + length first) lines rest × (bytes ≡ first ++ rest)

pub lone_give : (thumb : Bool) (address number : ℕ) (before : List ℕ) (ls : List (List ℕ)) (bytes : List ℕ)
    → AreLone thumb address ls bytes
    → lines_say (sources no_labels) number
    (record { bytes = before; place = record { address = address; thumb = thumb } }) ls
    ≡ Ok (before ++ bytes)
lone_give thumb address number before [] bytes h =
    lines_say-end (sources no_labels) number _
    ∙ ap Ok (sym (append-nil before) ∙ ap (λ more. before ++ more) (sym h))
lone_give thumb address number before (line ∷ ls) bytes h =
    let lone = h.2 in
    let step = given_line no_labels (number + 1) before h.0 (record { address = address; thumb = thumb })
    (record { address = address + length h.0; thumb = thumb }) line (lone.given (number + 1)) lone.next in
    lines_say-more (sources no_labels) number
    (record { bytes = before; place = record { address = address; thumb = thumb } }) line ls _ step
    ∙ lone_give thumb (address + length h.0) (number + 1) (before ++ h.0) ls h.1 h.4
    ∙ ap Ok (append_assoc before h.0 h.1 ∙ ap (λ more. before ++ more) (sym h.5))

lone_labels : (thumb : Bool) (address number : ℕ) (ls : List (List ℕ)) (bytes : List ℕ) → AreLone thumb address ls bytes
    → labels_from no_labels number (record { address = address; thumb = thumb }) ls ≡ no_labels
unfolding labels_from
lone_labels thumb address number [] bytes h = refl
lone_labels thumb address number (line ∷ ls) bytes h =
    let lone = h.2 in
    rw (h.3, lone.next) (lone_labels thumb (address + length h.0) (number + 1) ls h.1 h.4)

abbrev begun : Assembled
begun = record { bytes = []; place = start }

-- a source of such lines in ARM code
pub lone_arm : (source bytes : List ℕ) → length source ≤ longest_source → AreLone false 0 (lines source) bytes
    → assembly_of source ≡ Ok bytes
unfolding labels_of assembly_of
lone_arm source bytes short h =
    answer_of-lines (sources (labels_of source)) source (Ok bytes) short
    (ap (λ (f : Labels). lines_say (sources f) 0 begun (lines source)) (lone_labels false 0 0 (lines source) bytes h)
    ∙ lone_give false 0 0 [] (lines source) bytes h)

thumb_says : statement_of false (Word (codes ".thumb") ∷ []) ≡ Ok (Mode true)
unfolding statement_of directive_of directive_form
thumb_says = refl

turned : (line : List ℕ) → line_says false line ≡ Ok (Mode true) → place_after start line ≡ record {
  address = 0;
  thumb = true;
}
unfolding place_after size_of
turned line h = rw h refl

mode_gives : (line : List ℕ) → line_says false line ≡ Ok (Mode true) → label_of line ≡ None
    → line_bytes no_labels 1 start line ≡ Ok []
unfolding line_bytes size_of statement_bytes
mode_gives line h none = rw (h, none) refl

-- a source of such lines in Thumb code, after a line `.thumb`
pub lone_thumb : (source line bytes : List ℕ) (rest : List (List ℕ)) → length source ≤ longest_source
    → lines source ≡ line ∷ rest → line_says false line ≡ statement_of false (Word (codes ".thumb") ∷ [])
    → label_of line ≡ None → AreLone true 0 rest bytes → assembly_of source ≡ Ok bytes
unfolding labels_of labels_from assembly_of
lone_thumb source line bytes rest short split says none h =
    let said = says ∙ thumb_says in
    let found : labels_of source ≡ no_labels =
    rw (split, none, turned line said) (lone_labels true 0 1 rest bytes h) in
    let step =
    given_line no_labels 1 [] [] start (record { address = 0; thumb = true }) line (mode_gives line said none)
    (turned line said) in
    answer_of-lines (sources (labels_of source)) source (Ok bytes) short
    (ap (λ (f : Labels). lines_say (sources f) 0 begun (lines source)) found
    ∙ ap (λ (ls : List (List ℕ)). lines_say (sources no_labels) 0 begun ls) split
    ∙ lines_say-more (sources no_labels) 0 begun line rest _ step ∙ lone_give true 0 1 [] rest bytes h)

machine_said : (word : List ℕ) (ts : List Token) (s : thumb.ThumbStatement) → directive_of word ≡ None
    → thumb_statement word ts ≡ Ok s → statement_of true (Word word ∷ ts) ≡ Ok (Thumb s)
unfolding statement_of
machine_said word ts s none h = rw (none, h) refl

one_given : (address target half : ℕ) (s : thumb.ThumbStatement) (op : ThumbOp)
    → address_in no_labels (thumb_placing.target_of s) ≡ Ok target
    → thumb_placing.operations_at address target s ≡ Some (One op) → thumb_encoding op ≡ Ok half → address % 2 ≡ 0
    → statement_bytes no_labels address (Thumb s) ≡ Ok (to_le_bytes w16 half)
unfolding statement_bytes thumb_code
one_given address target half s op t o e a = rw (t, a, o, e) refl

-- a Thumb statement of one halfword
pub thumb_line : (address target half : ℕ) (word : List ℕ) (ts : List Token) (s : thumb.ThumbStatement) (op : ThumbOp)
    → directive_of word ≡ None → thumb_statement word ts ≡ Ok s
    → address_in no_labels (thumb_placing.target_of s) ≡ Ok target
    → thumb_placing.operations_at address target s ≡ Some (One op) → thumb_encoding op ≡ Ok half
    → thumb_placing.size_of s ≡ 2 → address % 2 ≡ 0 → address + 2 ≤ 33554432
    → Tells true address (Word word ∷ ts) (to_le_bytes w16 half)
unfolding size_of
thumb_line address target half word ts s op none h t o e size a room = record {
  statement = Thumb s;
  said = machine_said word ts s none h;
  inside = rw size (fits_by address 2 room);
  given = one_given address target half s op t o e a;
}

two_given : (address target first second : ℕ) (s : thumb.ThumbStatement) (a b : ThumbOp)
    → address_in no_labels (thumb_placing.target_of s) ≡ Ok target
    → thumb_placing.operations_at address target s ≡ Some (Two a b) → thumb_encoding a ≡ Ok first
    → thumb_encoding b ≡ Ok second → address % 2 ≡ 0
    → statement_bytes no_labels address (Thumb s) ≡ Ok (to_le_bytes w16 first ++ to_le_bytes w16 second)
unfolding statement_bytes thumb_code
two_given address target first second s a b t o e f even = rw (t, even, o, e, f) refl

-- a Thumb statement of two halfwords
pub call_line : (address target first second : ℕ) (word : List ℕ) (ts : List Token) (s : thumb.ThumbStatement)
    (a b : ThumbOp) → directive_of word ≡ None → thumb_statement word ts ≡ Ok s
    → address_in no_labels (thumb_placing.target_of s) ≡ Ok target
    → thumb_placing.operations_at address target s ≡ Some (Two a b) → thumb_encoding a ≡ Ok first
    → thumb_encoding b ≡ Ok second → thumb_placing.size_of s ≡ 4 → address % 2 ≡ 0 → address + 4 ≤ 33554432
    → Tells true address (Word word ∷ ts) (to_le_bytes w16 first ++ to_le_bytes w16 second)
unfolding size_of
call_line address target first second word ts s a b none h t o e f size even room = record {
  statement = Thumb s;
  said = machine_said word ts s none h;
  inside = rw size (fits_by address 4 room);
  given = two_given address target first second s a b t o e f even;
}
