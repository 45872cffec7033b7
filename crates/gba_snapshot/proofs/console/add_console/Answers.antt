use Rattle.std.proofs.Common.{◌≡◌, ◌++◌, List, ℕ, map, sym, ap, ◌∙◌, append_assoc}
use Rattle.gba_console.specs.Machine.{Machine}
use Rattle.gba_frozen.specs.declared.rows.Row.{Row}
use Rattle.gba_frozen_text.specs.Memories.{memory_lines_text}
use Rattle.gba_frozen_text.specs.Text.{drawn_of, numbers_say, row_of, rows_behind, says_text}
use Rattle.gba_numbers.specs.declared.names.MemoryName.TheVariants as memory
use Rattle.gba_snapshot.proofs.Lines.{console-is}
use Rattle.gba_snapshot.specs.Console.{backup_in, drawn_from, lines_of_memories, memory_bytes}
use Rattle.gba_snapshot.specs.Snapshot.{numbers_of}
use Rattle.gba_snapshot.proofs.console.add_console.Goals as goal

-- five pieces, one behind another
pub five : (old a b d e f n1 n2 n3 n4 n5 : List ℕ) → n1 ≡ old ++ a → n2 ≡ n1 ++ b → n3 ≡ n2 ++ d → n4 ≡ n3 ++ e
    → n5 ≡ n4 ++ f → n5 ≡ old ++ (a ++ ((b ++ d) ++ (e ++ f)))
five old a b d e f n1 n2 n3 n4 n5 h1 h2 h3 h4 h5 =
    h5 ∙ ap (λ (t : List ℕ). t ++ f) (h4 ∙ ap (λ (t : List ℕ). t ++ e) (h3 ∙ ap (λ (t : List ℕ). t ++ d)
    (h2 ∙ ap (λ (t : List ℕ). t ++ b) h1)))
    ∙ append_assoc (((old ++ a) ++ b) ++ d) e f
    ∙ append_assoc ((old ++ a) ++ b) d (e ++ f)
    ∙ append_assoc (old ++ a) b (d ++ (e ++ f))
    ∙ append_assoc old a (b ++ (d ++ (e ++ f)))
    ∙ ap (λ (t : List ℕ). old ++ (a ++ t)) (sym (append_assoc b d (e ++ f)))

pub returns-clause-items : goal.returns-clause-items
returns-clause-items c =
    let m : Machine = c.args.console.now in
    let rows : List Row = rows_behind (backup_in m) in
    let core = m.board.core in
    let numbers : c.add_numbers.new.into.items
    ≡ c.args.into.now.items ++ says_text (numbers_say c.args.player (numbers_of m)) =
    rw c.new-snapshot.ensures at c.add_numbers.ensures.items in
    let memories : c.add_memories.new.into.items ≡ c.add_numbers.new.into.items ++ lines_of_memories core =
    rw c.board.ensures at c.add_memories.ensures.items in
    let backup : c.add_backup.new.into.items
    ≡ c.add_memories.new.into.items ++ memory_lines_text memory.Backup (memory_bytes core memory.Backup) =
    rw c.board.ensures at c.add_backup.ensures.items in
    let behind : c.add_rows.new.into.items
    ≡ c.add_backup.new.into.items ++ says_text (map (row_of (numbers_of m)) rows) =
    rw (c.new-snapshot.ensures, c.rows_of.ensures.value) at c.add_rows.ensures.items in
    let drawn : c.add_lines.new.into.items
    ≡ c.add_rows.new.into.items ++ says_text (map drawn_of (drawn_from 0 core.lines)) =
    rw c.board.ensures at c.add_lines.ensures.items in
    five _ _ _ _ _ _ _ _ _ _ _ numbers memories backup behind drawn
    ∙ ap (λ (t : List ℕ). c.args.into.now.items ++ t)
    (sym (console-is c.args.player m (rw c.board.ensures at c.have_lengths.ensures)))
