-- The assembler takes a listing and gives the listed bytes.
use Rattle.std.proofs.Common.{◌≡◌, ◌<◌, ◌≤◌, ℕ, zero, suc, ◌+◌, ◌*◌, ◌-◌, ◌%◌, ◌^◌, Bool, true, false, cond, List, [], ◌∷◌, ◌++◌, length, get_or, codes, Option, Some, None, IfSome, IfOk, Result, Ok, Err, refl, sym, ap, ◌∙◌, subst, length-append, append_assoc, lit<, lit≤, arith}
use Rattle.std.specs.Int.{w16, w32, from_le_bytes, to_le_bytes}
use Rattle.std.specs.List.{list_all}
use Rattle.std.specs.Str.{bytes_eq}
use Rattle.std.proofs.lemmas.Bool.Decides.{nat_tests}
use Rattle.std.proofs.lemmas.Nat.{le_bytes_2, le_bytes_4}
use Rattle.std.proofs.lemmas.Slice.Eq.{bytes_eq-Decides}
use Rattle.gba_text.specs.Lines.{lines}
use Rattle.gba_text.proofs.FirstPieces.{lines_none}
use Rattle.gba_arm_table.specs.declared.operation.ArmOp.{ArmOp}
use Rattle.gba_arm_table.specs.Table as arm_table
use Rattle.gba_arm_table.proofs.Reading as arm_reading
use Rattle.gba_arm_table.specs.Limits as arm_limits
use Rattle.gba_thumb_table.specs.declared.operation.ThumbOp.{ThumbOp}
use Rattle.gba_thumb_table.specs.Table as thumb_table
use Rattle.gba_thumb_table.proofs.Reading as thumb_reading
use Rattle.gba_thumb_table.specs.Limits as thumb_limits
use Rattle.gba_asm_words.specs.declared.kinds.AsmKind.{AsmKind}
use Rattle.gba_asm.specs.Assembly.{assembly_of, lone_bytes}
use Rattle.gba_asm.specs.Language.{Says}
use Rattle.gba_asm.specs.Statements.{label_of}
use Rattle.gba_asm.proofs.Lone.{AreLone, IsLone, lone, lone_arm, lone_thumb}
use Rattle.gba_asm.proofs.Passes.{says}
use Rattle.gba_dis.specs.declared.units.Set.{Set}
use Rattle.gba_dis.specs.declared.units.Set.TheVariants.{Arm, Thumb}
use Rattle.gba_dis.specs.declared.units.Unit.{Unit}
use Rattle.gba_dis.specs.declared.units.Unit.TheVariants.{Word, Half, Call, Byte}
use Rattle.gba_dis.specs.Arm.{arm_pieces, arm_statement}
use Rattle.gba_dis.specs.Listing.{are_bytes, data_pieces, gives, line_pieces, line_text, lines_of, listing, statement}
use Rattle.gba_dis.specs.Law.{ComesBack}
use Rattle.gba_dis.specs.Pieces.{Piece, Plain, text_of}
use Rattle.gba_dis.specs.Thumb.{thumb_pieces, thumb_statement}
use Rattle.gba_dis.specs.Units.{arm_units, bytes_of, half_of, is_call, left_bytes, size_of, thumb_units, units}
use Rattle.gba_dis.proofs.Data.{IsPlaced, data_back, data_fine}
use Rattle.gba_dis.proofs.Lines.{lines_end, lines_more}
use Rattle.gba_dis.proofs.Shapes.{Fine, arm_fine, done, wider}
use Rattle.gba_dis.proofs.Spelling.{IsSpelling, is_clean, line_first, spelled_label, spelled_says, text_clean}
use Rattle.gba_dis.proofs.ThumbShapes.{call_fine, thumb_fine}

-- the room of a unit's line
abbrev room : Unit → ℕ
room (Word word) = 123
room (Half half) = 61
room (Call first second) = 61
room (Byte byte) = 30

room_size : (u : Unit) → room u + 1 ≤ 31 * size_of u
room_size (Word word) = lit≤ tt
room_size (Half half) = lit≤ tt
room_size (Call first second) = lit≤ tt
room_size (Byte byte) = lit≤ tt

room_least : (u : Unit) → 30 ≤ room u
room_least (Word word) = lit≤ tt
room_least (Half half) = lit≤ tt
room_least (Call first second) = lit≤ tt
room_least (Byte byte) = lit≤ tt

arm_line : (at : ℕ) (o : Option ArmOp) → IfSome o arm_limits.Fits → Fine 123 (arm_statement at o)
arm_line at (Some o) h = arm_fine at o h
arm_line at None h = wider (lit≤ tt) done

thumb_line : (at : ℕ) (o : Option ThumbOp) → IfSome o thumb_limits.Fits → Fine 61 (thumb_statement at o)
thumb_line at (Some o) h = thumb_fine at o h
thumb_line at None h = wider (lit≤ tt) done

statement_fine : (at : ℕ) (u : Unit) → Fine (room u) (statement at u)
statement_fine at (Word word) = arm_line at (arm_table.operation word) (arm_reading.operation-Fits word)
statement_fine at (Half half) = thumb_line at (thumb_table.operation half) (thumb_reading.operation-Fits half)
statement_fine at (Call first second) = call_fine at first second
statement_fine at (Byte byte) = wider (lit≤ tt) done

fine_by : (at : ℕ) (u : Unit) (t : Bool) → Fine (room u) (cond t (statement at u) (data_pieces u))
fine_by at u true = statement_fine at u
fine_by at u false = wider (room_least u) (data_fine u)

line_fine : (thumb : Bool) (at : ℕ) (u : Unit) → Fine (room u) (line_pieces thumb at u)
unfolding line_pieces
line_fine thumb at u = fine_by at u (gives thumb at (text_of (statement at u)) (bytes_of u))

same_bytes : (r : Result (List ℕ) AsmKind) (bytes : List ℕ) → are_bytes bytes r ≡ true → r ≡ Ok bytes
same_bytes (Ok given) bytes h =
    let same : given ≡ bytes = grind (arith, bytes_eq-Decides) in
    ap Ok same
same_bytes (Err kind) bytes h = absurd cc

given_by : (thumb : Bool) (at : ℕ) (u : Unit) (t : Bool) → IsPlaced at u → at + size_of u ≤ 33554432
    → gives thumb at (text_of (statement at u)) (bytes_of u) ≡ t
    → lone_bytes thumb at (text_of (cond t (statement at u) (data_pieces u))) ≡ Ok (bytes_of u)
given_by thumb at u true h inside e = same_bytes (lone_bytes thumb at (text_of (statement at u))) (bytes_of u) e
given_by thumb at u false h inside e = data_back thumb at u h inside

-- the line of a unit gives the unit's bytes
pub line_given : (thumb : Bool) (at : ℕ) (u : Unit) → IsPlaced at u → at + size_of u ≤ 33554432
    → lone_bytes thumb at (line_text thumb at u) ≡ Ok (bytes_of u)
unfolding line_pieces
line_given thumb at u h inside = given_by thumb at u _ h inside refl

bytes_length : (u : Unit) → length (bytes_of u) ≡ size_of u
bytes_length (Word word) = refl
bytes_length (Half half) = refl
bytes_length (Call first second) = refl
bytes_length (Byte byte) = refl

size_some : (u : Unit) → 0 < size_of u
size_some (Word word) = lit< tt
size_some (Half half) = lit< tt
size_some (Call first second) = lit< tt
size_some (Byte byte) = lit< tt

-- units that stand one after another from this address on
abbrev ArePlaced : ℕ → List Unit → Type 0
ArePlaced at [] = Prim.Unit {0}
ArePlaced at (u ∷ us) = IsPlaced at u × (at + size_of u ≤ 33554432) × ArePlaced (at + size_of u) us

-- the bytes of units
abbrev whole : List Unit → List ℕ
whole [] = []
whole (u ∷ us) = bytes_of u ++ whole us

pub statement_short : (at : ℕ) (u : Unit) → length (text_of (statement at u)) ≤ 400
statement_short at (Word word) = omega (arith, (statement_fine at (Word word)).short)
statement_short at (Half half) = omega (arith, (statement_fine at (Half half)).short)
statement_short at (Call first second) = omega (arith, (statement_fine at (Call first second)).short)
statement_short at (Byte byte) = omega (arith, (statement_fine at (Byte byte)).short)

pub statement_spelled : (at : ℕ) (u : Unit) → IsSpelling (statement at u)
statement_spelled at u = (statement_fine at u).spelled

line_short : (thumb : Bool) (at : ℕ) (u : Unit) → length (line_text thumb at u) ≤ 400
line_short thumb at u = omega (arith, (line_fine thumb at u).short, room_most u) where
  room_most : (u : Unit) → room u ≤ 123
  room_most (Word word) = lit≤ tt
  room_most (Half half) = lit≤ tt
  room_most (Call first second) = lit≤ tt
  room_most (Byte byte) = lit≤ tt

line_lone : (thumb : Bool) (at : ℕ) (u : Unit) → IsPlaced at u → at + size_of u ≤ 33554432
    → IsLone thumb at (line_text thumb at u) (bytes_of u)
line_lone thumb at u h inside =
    lone thumb at (line_text thumb at u) (bytes_of u) (line_given thumb at u h inside)
    (spelled_label (line_pieces thumb at u) (line_fine thumb at u).spelled (line_short thumb at u))
    (omega (arith, bytes_length u, size_some u))

lines_split : (thumb : Bool) (at : ℕ) (u : Unit) (us : List Unit)
    → lines (lines_of thumb at (u ∷ us)) ≡ line_text thumb at u ∷ lines (lines_of thumb (at + size_of u) us)
lines_split thumb at u us =
    ap lines (lines_more thumb at u us)
    ∙ line_first (line_text thumb at u) (lines_of thumb (at + size_of u) us)
    (text_clean (line_pieces thumb at u) (line_fine thumb at u).spelled)

are_lone : (thumb : Bool) (at : ℕ) (us : List Unit) → ArePlaced at us
    → AreLone thumb at (lines (lines_of thumb at us)) (whole us)
are_lone thumb at [] h = rw (lines_end thumb at, lines_none) refl
are_lone thumb at (u ∷ us) h =
    let rest : AreLone thumb (at + length (bytes_of u)) (lines (lines_of thumb (at + size_of u) us)) (whole us) =
    rw bytes_length (are_lone thumb (at + size_of u) us h.2) in
    rw lines_split (
      bytes_of u,
      whole us,
      line_lone thumb at u h.0 h.1,
      spelled_label (line_pieces thumb at u) (line_fine thumb at u).spelled (line_short thumb at u),
      rest,
      refl,
    )

lines_short : (thumb : Bool) (at : ℕ) (us : List Unit) → length (lines_of thumb at us) ≤ 31 * length (whole us)
lines_short thumb at [] = rw lines_end (omega arith)
lines_short thumb at (u ∷ us) =
    rw lines_more (omega (
      arith,
      length-append (line_text thumb at u) (10 ∷ lines_of thumb (at + size_of u) us),
      length-append (bytes_of u) (whole us),
      bytes_length u,
      (line_fine thumb at u).short,
      room_size u,
      lines_short thumb (at + size_of u) us,
    ))

-- bytes
abbrev AreBytes : List ℕ → Type 0
AreBytes [] = Prim.Unit {0}
AreBytes (b ∷ bs) = (b < 2 ^ 8) × AreBytes bs

each_byte : (bs : List ℕ) → ((i : ℕ) → get_or bs i 0 < 2 ^ 8) → AreBytes bs
each_byte [] h = tt
each_byte (b ∷ bs) h = (h 0, each_byte bs (λ i. h (suc i)))

byte_at : (bs : List ℕ) → AreBytes bs → (i : ℕ) → get_or bs i 0 < 256
byte_at [] h i = lit< tt
byte_at (b ∷ bs) h zero = h.0
byte_at (b ∷ bs) h (suc i) = byte_at bs h.1 i

left_whole : (bs : List ℕ) → whole (left_bytes bs) ≡ bs
left_whole [] = refl
left_whole (b ∷ bs) = ap (λ xs. b ∷ xs) (left_whole bs)

left_placed : (at : ℕ) (bs : List ℕ) → AreBytes bs → at + length bs ≤ 33554432 → ArePlaced at (left_bytes bs)
left_placed at [] h inside = tt
left_placed at (b ∷ bs) h inside = (h.0, omega (arith, inside), left_placed (at + 1) bs h.1 (omega (arith, inside)))

word_small : (a b c d : ℕ) → AreBytes (a ∷ b ∷ c ∷ d ∷ []) → from_le_bytes w32 (a ∷ b ∷ c ∷ d ∷ []) < 2 ^ 32
word_small a b c d h = omega (arith, h.0, h.1.0, h.1.1.0, h.1.1.1.0)

half_small : (a b : ℕ) → AreBytes (a ∷ b ∷ []) → half_of a b < 2 ^ 16
half_small a b h = omega (arith, h.0, h.1.0)

word_back : (a b c d : ℕ) → AreBytes (a ∷ b ∷ c ∷ d ∷ []) → to_le_bytes w32 (from_le_bytes w32 (a ∷ b ∷ c ∷ d ∷ []))
    ≡ a ∷ b ∷ c ∷ d ∷ []
word_back a b c d h = le_bytes_4 (a ∷ b ∷ c ∷ d ∷ []) _ refl (byte_at (a ∷ b ∷ c ∷ d ∷ []) h) refl

half_back : (a b : ℕ) → AreBytes (a ∷ b ∷ []) → to_le_bytes w16 (half_of a b) ≡ a ∷ b ∷ []
half_back a b h = le_bytes_2 (a ∷ b ∷ []) _ refl (byte_at (a ∷ b ∷ []) h) refl

arm_whole : (bs : List ℕ) → AreBytes bs → whole (arm_units bs) ≡ bs
unfolding arm_units
arm_whole (a ∷ b ∷ c ∷ d ∷ rest) h =
    ap (λ xs. xs ++ whole (arm_units rest)) (word_back a b c d (h.0, (h.1.0, (h.1.1.0, (h.1.1.1.0, tt)))))
    ∙ ap (λ xs. (a ∷ b ∷ c ∷ d ∷ []) ++ xs) (arm_whole rest h.1.1.1.1)
arm_whole (a ∷ b ∷ c ∷ []) h = left_whole (a ∷ b ∷ c ∷ [])
arm_whole (a ∷ b ∷ []) h = left_whole (a ∷ b ∷ [])
arm_whole (a ∷ []) h = left_whole (a ∷ [])
arm_whole [] h = refl

arm_placed : (at : ℕ) (bs : List ℕ) → AreBytes bs → at % 4 ≡ 0 → at + length bs ≤ 33554432 → ArePlaced at (arm_units bs)
unfolding arm_units
arm_placed at (a ∷ b ∷ c ∷ d ∷ rest) h even inside = (
  (word_small a b c d (h.0, (h.1.0, (h.1.1.0, (h.1.1.1.0, tt)))), even),
  omega (arith, inside),
  arm_placed (at + 4) rest h.1.1.1.1 (omega (arith, even)) (omega (arith, inside)),
)
arm_placed at (a ∷ b ∷ c ∷ []) h even inside = left_placed at (a ∷ b ∷ c ∷ []) h inside
arm_placed at (a ∷ b ∷ []) h even inside = left_placed at (a ∷ b ∷ []) h inside
arm_placed at (a ∷ []) h even inside = left_placed at (a ∷ []) h inside
arm_placed at [] h even inside = tt

call_whole : (t : Bool) (first second : ℕ) (us vs : List Unit) (bs cs ds : List ℕ) → whole us ≡ ds → whole vs ≡ cs ++ ds
    → to_le_bytes w16 first ≡ bs → to_le_bytes w16 second ≡ cs
    → whole (cond t (Call first second ∷ us) (Half first ∷ vs)) ≡ bs ++ (cs ++ ds)
call_whole true first second us vs bs cs ds h k e f =
    append_assoc (to_le_bytes w16 first) (to_le_bytes w16 second) (whole us)
    ∙ ap (λ xs. xs ++ (to_le_bytes w16 second ++ whole us)) e ∙ ap (λ xs. bs ++ (xs ++ whole us)) f
    ∙ ap (λ xs. bs ++ (cs ++ xs)) h
call_whole false first second us vs bs cs ds h k e f =
    ap (λ xs. xs ++ whole vs) e ∙ ap (λ xs. bs ++ xs) k

thumb_whole : (bs : List ℕ) → AreBytes bs → whole (thumb_units bs) ≡ bs
unfolding thumb_units
thumb_whole (a ∷ b ∷ c ∷ d ∷ rest) h =
    call_whole _ (half_of a b) (half_of c d) (thumb_units rest) (thumb_units (c ∷ d ∷ rest)) (a ∷ b ∷ [])
    (c ∷ d ∷ []) rest (thumb_whole rest h.1.1.1.1) (thumb_whole (c ∷ d ∷ rest) h.1.1) (half_back a b (h.0, (h.1.0, tt)))
    (half_back c d (h.1.1.0, (h.1.1.1.0, tt)))
thumb_whole (a ∷ b ∷ c ∷ []) h = ap (λ xs. xs ++ (c ∷ [])) (half_back a b (h.0, (h.1.0, tt)))
thumb_whole (a ∷ b ∷ []) h = ap (λ xs. xs ++ []) (half_back a b (h.0, (h.1.0, tt)))
thumb_whole (a ∷ []) h = refl
thumb_whole [] h = refl

call_placed : (t : Bool) (at first second : ℕ) (us vs : List Unit) → first < 2 ^ 16 → second < 2 ^ 16 → at % 2 ≡ 0
    → at + 4 ≤ 33554432 → ArePlaced (at + 4) us → ArePlaced (at + 2) vs
    → ArePlaced at (cond t (Call first second ∷ us) (Half first ∷ vs))
call_placed true at first second us vs h k even inside u v = ((h, k, even), inside, u)
call_placed false at first second us vs h k even inside u v = ((h, even), omega (arith, inside), v)

thumb_placed : (at : ℕ) (bs : List ℕ) → AreBytes bs → at % 2 ≡ 0 → at + length bs ≤ 33554432
    → ArePlaced at (thumb_units bs)
unfolding thumb_units
thumb_placed at (a ∷ b ∷ c ∷ d ∷ rest) h even inside =
    call_placed _ at (half_of a b) (half_of c d) (thumb_units rest) (thumb_units (c ∷ d ∷ rest))
    (half_small a b (h.0, (h.1.0, tt))) (half_small c d (h.1.1.0, (h.1.1.1.0, tt))) even (omega (arith, inside))
    (thumb_placed (at + 4) rest h.1.1.1.1 (omega (arith, even)) (omega (arith, inside)))
    (thumb_placed (at + 2) (c ∷ d ∷ rest) h.1.1 (omega (arith, even)) (omega (arith, inside)))
thumb_placed at (a ∷ b ∷ c ∷ []) h even inside =
    ((half_small a b (h.0, (h.1.0, tt)), even), omega (arith, inside), (h.1.1.0, omega (arith, inside), tt))
thumb_placed at (a ∷ b ∷ []) h even inside = ((half_small a b (h.0, (h.1.0, tt)), even), omega (arith, inside), tt)
thumb_placed at (a ∷ []) h even inside = (h.0, omega (arith, inside), tt)
thumb_placed at [] h even inside = tt

arm_back : (bytes : List ℕ) → AreBytes bytes → length bytes ≤ 33554432 → assembly_of (listing Arm bytes) ≡ Ok bytes
unfolding listing
arm_back bytes h inside =
    let us = arm_units bytes in
    let all = arm_whole bytes h in
    let placed = arm_placed 0 bytes h refl (omega (arith, inside)) in
    lone_arm (lines_of false 0 us) (whole us) (omega (arith, lines_short false 0 us, ap length all, inside))
    (are_lone false 0 us placed)
    ∙ ap Ok all

heading_split : (rest : List ℕ) → lines ((codes ".thumb" ++ 10 ∷ []) ++ rest) ≡ codes ".thumb" ∷ lines rest
heading_split rest = line_first (codes ".thumb") rest refl

thumb_back : (bytes : List ℕ) → AreBytes bytes → length bytes ≤ 33554432 → assembly_of (listing Thumb bytes) ≡ Ok bytes
unfolding listing
thumb_back bytes h inside =
    let us = thumb_units bytes in
    let all = thumb_whole bytes h in
    let placed = thumb_placed 0 bytes h refl (omega (arith, inside)) in
    let head : List Piece = Plain (codes ".thumb") ∷ [] in
    let spelled : IsSpelling head = (record { bytes = refl; some = lit< tt }, tt, tt) in
    lone_thumb ((codes ".thumb" ++ 10 ∷ []) ++ lines_of true 0 us) (codes ".thumb") (whole us)
    (lines (lines_of true 0 us))
    (omega (
      arith,
      lines_short true 0 us,
      ap length all,
      inside,
      length-append (codes ".thumb" ++ 10 ∷ []) (lines_of true 0 us),
    ))
    (heading_split (lines_of true 0 us)) (spelled_says false head spelled (lit≤ tt))
    (spelled_label head spelled (lit≤ tt)) (are_lone true 0 us placed)
    ∙ ap Ok all

both_back : (set : Set) (bytes : List ℕ) → AreBytes bytes → length bytes ≤ 33554432
    → assembly_of (listing set bytes) ≡ Ok bytes
both_back Arm bytes h inside = arm_back bytes h inside
both_back Thumb bytes h inside = thumb_back bytes h inside

-- the law of the round trip
pub comes_back : ComesBack
comes_back set bytes h inside =
    subst (Says (listing set bytes)) (both_back set bytes (each_byte bytes h) inside) (says (listing set bytes))

-- the same of the program's answer
pub answer_back : {V E : Type 0} (view : V → List ℕ) (set : Set) (bytes : List ℕ) (r : Result V E)
    → ((i : ℕ) → get_or bytes i 0 < 2 ^ 8) → length bytes ≤ 33554432
    → IfOk r (λ v. view v ≡ listing set bytes) → IfOk r (λ v. Says (view v) (Ok bytes))
answer_back view set bytes (Ok v) h inside same =
    subst (λ (text : List ℕ). Says text (Ok bytes)) (sym same) (comes_back set bytes h inside)
answer_back view set bytes (Err e) h inside same = tt
