use Rattle.std.proofs.Common.{◌≡◌, [], refl, arith}
use Rattle.std.proofs.lemmas.List.{nil_from_length}
use Rattle.gba_text.proofs.FirstPieces.{lines_none}
use Rattle.gba_text.proofs.cursor.Cursor.line.Goals as goal

pub returns-then-is_empty-clause-line : goal.returns-then-is_empty-clause-line
returns-then-is_empty-clause-line c =
    let none : c.self.inside.rest.now ≡ [] = nil_from_length _ (grind arith) in
    rw (← c.self.view_is, none, lines_none) refl

pub returns-then-is_empty-clause-state : goal.returns-then-is_empty-clause-state
returns-then-is_empty-clause-state c =
    let none : c.self.inside.rest.now ≡ [] = nil_from_length _ (grind arith) in
    rw (← c.self.view_is, none, lines_none) refl
