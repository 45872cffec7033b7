use Rattle.std.proofs.Common.{◌≡◌, ℕ, suc, ◌+◌, ◌-◌, ◌*◌, ◌/◌, ◌++◌, List, length, take, drop, sym, ap, ◌∙◌, arith}
use Rattle.std.specs.Prelude.{map}
use Rattle.std.proofs.lemmas.List.{append-nil}
use Rattle.gba_frozen.specs.declared.places.MemoryPlace.{MemoryPlace}
use Rattle.gba_frozen_text.specs.Memories.{row_text, rows_in}
use Rattle.gba_frozen_text.specs.Text.{memory_of, says_text}
use Rattle.gba_frozen_text.proofs.Printing.{drop_more, grown, rows_in-more, rows_in-none}
use Rattle.gba_frozen_text.proofs.memories.add_memory_lines.Goals as goal

pub loop-line-preserved : goal.loop-line-preserved
loop-line-preserved c =
    let bytes = c.args.bytes.now in
    let name = c.args.name in
    let offset : ℕ = c.loop-line.line * 32 in
    let place : MemoryPlace = record { name = name; offset = offset } in
    let left : ℕ = length bytes / 32 - (c.loop-line.line + 1) in
    let more : length bytes / 32 - c.loop-line.line ≡ suc left = omega arith in
    let after : offset + 32 ≡ (c.loop-line.line + 1) * 32 = omega arith in
    let split : says_text
    (map memory_of (rows_in name offset (length bytes / 32 - c.loop-line.line) (drop offset bytes)))
    ≡ row_text place (take 32 (drop offset bytes))
    ++ says_text
    (map memory_of (rows_in name ((c.loop-line.line + 1) * 32) left (drop ((c.loop-line.line + 1) * 32) bytes)))
    = rows_in-more name offset (length bytes / 32 - c.loop-line.line) left (drop offset bytes) more
    ∙ ap (λ (bs : List ℕ). row_text place (take 32 (drop offset bytes))
    ++ says_text (map memory_of (rows_in name (offset + 32) left bs))) (drop_more offset 32 bytes)
    ∙ ap (λ n. row_text place (take 32 (drop offset bytes))
    ++ says_text (map memory_of (rows_in name n left (drop n bytes)))) after in
    let width : offset + 32 - offset ≡ 32 = omega arith in
    let grew : c.add_memory_row.new.into.items
    ≡ c.loop-line.into.items ++ row_text place (take 32 (drop offset bytes)) =
    c.add_memory_row.ensures.items
    ∙ ap (λ n. c.loop-line.into.items ++ row_text place (take n (drop offset bytes))) width in
    record {
      items = grown _ _ _ _ _ _ grew split c.loop-line.invariant.items;
      len = omega arith;
      room = omega arith;
    }

pub returns-clause-items : goal.returns-clause-items
returns-clause-items c =
    let bytes = c.args.bytes.now in
    let none : length bytes / 32 - c.loop-line.line ≡ 0 = omega arith in
    let gone =
    rows_in-none c.args.name (c.loop-line.line * 32) (length bytes / 32 - c.loop-line.line)
    (drop (c.loop-line.line * 32) bytes) none in
    sym (append-nil c.loop-line.into.items) ∙ ap (λ (t : List ℕ). c.loop-line.into.items ++ t) (sym gone)
    ∙ c.loop-line.invariant.items
