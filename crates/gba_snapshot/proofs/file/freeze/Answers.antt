use Rattle.std.proofs.Common.{◌≡◌, ◌≤◌, ◌++◌, List, ℕ, map, ap, ◌∙◌, append_assoc, length, arith}
use Rattle.std.proofs.lemmas.List.{length-map}
use Rattle.gba_console.specs.Machine.{Machine, without_limit}
use Rattle.gba_snapshot.specs.File.{consoles_text, frozen_file}
use Rattle.gba_snapshot.proofs.file.freeze.Goals as goal

-- five pieces, one behind another
five : (old a b d e f n1 n2 n3 n4 n5 : List ℕ) → n1 ≡ old ++ a → n2 ≡ n1 ++ b → n3 ≡ n2 ++ d → n4 ≡ n3 ++ e
    → n5 ≡ n4 ++ f → n5 ≡ old ++ (a ++ (b ++ (d ++ (e ++ f))))
five old a b d e f n1 n2 n3 n4 n5 h1 h2 h3 h4 h5 =
    h5 ∙ ap (λ (t : List ℕ). t ++ f) (h4 ∙ ap (λ (t : List ℕ). t ++ e) (h3 ∙ ap (λ (t : List ℕ). t ++ d)
    (h2 ∙ ap (λ (t : List ℕ). t ++ b) h1)))
    ∙ append_assoc (((old ++ a) ++ b) ++ d) e f
    ∙ append_assoc ((old ++ a) ++ b) d (e ++ f)
    ∙ append_assoc (old ++ a) b (d ++ (e ++ f))
    ∙ append_assoc old a (b ++ (d ++ (e ++ f)))

pub add_signals-requires : goal.add_signals-requires
add_signals-requires c =
    let consoles : List Machine = c.args.cut.now.consoles in
    let few : length (map without_limit consoles) ≤ 4 = c.nodes.ensures.cable.at_most_four in
    let four : length c.nodes.result.now ≤ 4 =
    omega (arith, few, length-map consoles without_limit, ap length c.nodes.ensures.value) in
    omega (
      arith,
      c.sent-few.ensures.few,
      ap length c.sent-few.ensures.value,
      four,
      c.requires,
      c.add_version.ensures.len,
      c.add_digest.ensures.len,
      c.add_consoles.ensures.len,
    )

pub returns-clause-items : goal.returns-clause-items
unfolding frozen_file
returns-clause-items c =
    let consoles : c.add_consoles.new.into.items
    ≡ c.add_digest.new.into.items ++ consoles_text 0 c.args.cut.now.consoles =
    c.add_consoles.ensures.items
    ∙ ap (λ (ms : List Machine). c.add_digest.new.into.items ++ consoles_text 0 ms) c.nodes.ensures.value in
    five _ _ _ _ _ _ _ _ _ _ _ c.add_version.ensures.items c.add_digest.ensures.items consoles
    c.add_signals.ensures.items c.add_end.ensures.items
