-- Which units are listed as statements.
use Rattle.std.proofs.Common.{◌≡◌, ◌<◌, ◌≤◌, ℕ, ◌+◌, ◌*◌, ◌/◌, ◌%◌, ◌^◌, Bool, true, false, cond, IsTrue, List, Option, Some, None, IfSome, Result, Ok, refl, sym, ap, ◌∙◌, lit<, arith}
use Rattle.std.specs.Int.{w16, to_le_bytes}
use Rattle.std.specs.Str.{bytes_eq}
use Rattle.std.proofs.lemmas.Bool.Decides.{nat_tests}
use Rattle.std.proofs.lemmas.Slice.Eq.{bytes_eq-Decides}
use Rattle.gba_thumb_table.specs.declared.operation.ThumbOp.{ThumbOp}
use Rattle.gba_thumb_table.specs.declared.operation.ThumbOp.TheVariants.{Format19}
use Rattle.gba_thumb_table.specs.Encoding.{encoding}
use Rattle.gba_thumb_table.specs.Limits.{Fits}
use Rattle.gba_thumb_table.specs.Table.{operation}
use Rattle.gba_thumb_table.proofs.Reading.{operation-Fits}
use Rattle.gba_thumb_table.proofs.RoundTrip.{encoding-Fits}
use Rattle.gba_thumb_table.proofs.Writing.{encoding-operation}
use Rattle.gba_asm_words.specs.declared.kinds.AsmKind.{AsmKind}
use Rattle.gba_asm.specs.Assembly.{lone_bytes}
use Rattle.gba_asm.proofs.Lone.{Tells, told}
use Rattle.gba_dis.specs.declared.units.Unit.{Unit}
use Rattle.gba_dis.specs.declared.units.Unit.TheVariants.{Half, Call}
use Rattle.gba_dis.specs.Law.{TellsCalls, TellsHalfwords, is_told}
use Rattle.gba_dis.specs.Listing.{are_bytes, data_pieces, gives, line_pieces, statement}
use Rattle.gba_dis.specs.Pieces.{text_of}
use Rattle.gba_dis.specs.Thumb.{call_pieces, thumb_pieces, thumb_statement}
use Rattle.gba_dis.specs.Units.{bytes_of, is_call}
use Rattle.gba_dis.proofs.Back.{statement_short, statement_spelled}
use Rattle.gba_dis.proofs.Spelling.{spelled_label, spelled_says, tokens_of}
use Rattle.gba_dis.proofs.ThumbStatements.{call_tells, thumb_tells}

same : (bytes : List ℕ) → bytes_eq bytes bytes ≡ true
same bytes = grind (arith, bytes_eq-Decides)

gives_by : (r : Result (List ℕ) AsmKind) (bytes : List ℕ) → r ≡ Ok bytes → are_bytes bytes r ≡ true
gives_by r bytes e = ap (are_bytes bytes) e ∙ same bytes

chosen : (thumb : Bool) (at : ℕ) (u : Unit) → gives thumb at (text_of (statement at u)) (bytes_of u) ≡ true
    → line_pieces thumb at u ≡ statement at u
unfolding line_pieces
chosen thumb at u h = rw h refl

-- a statement that tells the unit's bytes is the unit's line
pub stated : (thumb : Bool) (at : ℕ) (u : Unit) → Tells thumb at (tokens_of (statement at u)) (bytes_of u)
    → line_pieces thumb at u ≡ statement at u
stated thumb at u t =
    let short = statement_short at u in
    let spelled = statement_spelled at u in
    chosen thumb at u (gives_by (lone_bytes thumb at (text_of (statement at u))) (bytes_of u)
    (told thumb at (text_of (statement at u)) (tokens_of (statement at u)) (bytes_of u)
    (spelled_says thumb (statement at u) spelled short) (spelled_label (statement at u) spelled short) t))

half_by : (at half : ℕ) (o : Option ThumbOp) → operation half ≡ o → IfSome o Fits
    → IfSome o (λ op. encoding op ≡ Ok half) → at % 2 ≡ 0 → at + 2 ≤ 33554432
    → IfSome o (λ op. IsTrue (is_told op) → line_pieces true at (Half half) ≡ thumb_pieces at op)
half_by at half None e fits back even room = tt
half_by at half (Some op) e fits back even room = λ say.
    let is : statement at (Half half) ≡ thumb_pieces at op = ap (thumb_statement at) e in
    let yes : is_told op ≡ true = grind (arith, nat_tests) in
    let t : Tells true at (tokens_of (statement at (Half half))) (to_le_bytes w16 half) =
    rw is (thumb_tells at half op fits yes back even room) in
    stated true at (Half half) t ∙ is

pub halfwords_told : TellsHalfwords
halfwords_told at half h even room =
    half_by at half (operation half) refl (operation-Fits half) (encoding-operation half h) even room

half_fits : (second : Bool) (n : ℕ) → n < 2048 → Fits (Format19 second n)
half_fits second n h = record { registers = tt; immediates = tt; offsets = (h, tt) }

first_half : (first n : ℕ) → first ≡ 61440 + n → n < 2048 → encoding (Format19 false n) ≡ Ok first
first_half first n e h = encoding-Fits (Format19 false n) (half_fits false n h) ∙ ap Ok (omega (arith, e, h))

second_half : (second n : ℕ) → second ≡ 63488 + n → n < 2048 → encoding (Format19 true n) ≡ Ok second
second_half second n e h = encoding-Fits (Format19 true n) (half_fits true n h) ∙ ap Ok (omega (arith, e, h))

call_is : (at first second : ℕ) → first < 2 ^ 16 → second < 2 ^ 16 → first / 2048 ≡ 30 → second / 2048 ≡ 31 → at % 2 ≡ 0
    → at + 4 ≤ 33554432
    → Tells true at (tokens_of (call_pieces at first second)) (bytes_of (Call first second))
unfolding call_pieces
call_is at first second h k e f even room =
    let n = first % 2048 * 2048 + second % 2048 in
    let high : n / 2048 ≡ first % 2048 = omega arith in
    let low : n % 2048 ≡ second % 2048 = omega arith in
    call_tells at first second n (omega arith)
    (ap (λ x. encoding (Format19 false x)) high ∙ first_half first (first % 2048) (omega arith) (omega arith))
    (ap (λ x. encoding (Format19 true x)) low ∙ second_half second (second % 2048) (omega arith) (omega arith))
    even room

pub calls_told : TellsCalls
calls_told at first second h k call even room =
    let e : first / 2048 ≡ 30 = grind (arith, nat_tests) in
    let f : second / 2048 ≡ 31 = grind (arith, nat_tests) in
    stated true at (Call first second) (call_is at first second h k e f even room)
