-- A new table's script is sound, and its words are those of the opening.
use Rattle.std.specs.Prelude.{List, [], length, map}
use Rattle.std.proofs.Common.{ℕ, ◌≡◌, ◌≤◌, ◌^◌, arith, sym, ap, ◌∙◌, subst}
use Rattle.std.proofs.lemmas.List.{length-map}
use Rattle.link_order.specs.NodeKind.{NodeKind, IsLawful}
use Rattle.link_order.specs.Cut.{Cut, plain_cut, count, IsSound, IsCable}
use Rattle.link_script.specs.Script.{IsSoundScript}
use Rattle.link_script.proofs.Scripts.{scripts}
use Rattle.link_rule.specs.Rule.{AreOpening, first_view}
use Rattle.link_table.specs.declared.key.Key.{Key}
use Rattle.link_table.specs.Text.{script_of}
use Rattle.link_table.specs.Opening.{HasClocks, IsUndealt}
use Rattle.link_table.proofs.Seats.{Mine}

-- what is known of the cut that a table is made from
pub record IsOpen {N C : Type 0} (kind : NodeKind C) (plain : N → C) (key : Key N) (words : List ℕ) : Type 0 where
  pub cable : IsCable (plain_cut plain key.cut.value)
  pub sound : IsSound kind (plain_cut plain key.cut.value)
  pub limit : key.limit ≤ 2 ^ 39
  pub clocks : HasClocks (map kind.clock (map plain key.cut.value.consoles)) words (length key.cut.value.consoles)

pub sound_text : {N C : Type 0} (kind : NodeKind C) → IsLawful kind → (plain : N → C) (key : Key N) (words : List ℕ)
    → IsOpen kind plain key words → IsSoundScript (script_of kind plain key)
unfolding script_of
sound_text kind law plain key words h =
    let same = length-map key.cut.value.consoles plain in
    scripts kind law (plain_cut plain key.cut.value) key.limit h.cable h.sound h.limit
    (λ i below. h.clocks.small i (omega (arith, below, same)))

pub opening_text : {N C : Type 0} (kind : NodeKind C) (plain : N → C) (key : Key N) (words : List ℕ)
    → IsOpen kind plain key words → AreOpening (script_of kind plain key) words
unfolding script_of
opening_text kind plain key words h =
    let same = length-map key.cut.value.consoles plain in
    record { wide = h.clocks.wide; clocks = λ i below. h.clocks.clock_is i (omega (arith, below, same)) }

pub players_text : {N C : Type 0} (kind : NodeKind C) (plain : N → C) (key : Key N)
    → length key.cut.value.consoles ≡ (script_of kind plain key).players
unfolding script_of
players_text kind plain key = sym (length-map key.cut.value.consoles plain)

-- the facts of the code, about its key
pub is_open : {N C : Type 0} (kind : NodeKind C) (plain : N → C) (key : Key N) (cut : Cut N) (nodes : List N)
    (words : List ℕ) → key.cut.value ≡ cut → nodes ≡ cut.consoles → IsCable (plain_cut plain cut)
    → IsSound kind (plain_cut plain cut) → key.limit ≤ 2 ^ 39
    → HasClocks (map kind.clock (map plain nodes)) words (length nodes) → IsOpen kind plain key words
is_open {N = N} kind plain key cut nodes words is nodes_are cable sound limit clocks = record {
  cable = subst (λ (d : Cut N). IsCable (plain_cut plain d)) (sym is) cable;
  sound = subst (λ (d : Cut N). IsSound kind (plain_cut plain d)) (sym is) sound;
  limit = limit;
  clocks =
      subst (λ (l : List N). HasClocks (map kind.clock (map plain l)) words (length l))
      (nodes_are ∙ ap (λ (d : Cut N). d.consoles) (sym is)) clocks;
}

-- the first place at the table plays all
pub undealt_whole : {N C : Type 0} (kind : NodeKind C) (plain : N → C) (key : Key N) (me : Mine N) (players : ℕ)
    → players ≡ (script_of kind plain key).players → me ≡ (first_view (script_of kind plain) key, [])
    → IsUndealt kind plain key me 0 players
undealt_whole kind plain key me players count is =
    subst (λ (n : ℕ). IsUndealt kind plain key me 0 n) (sym count) (record { me_is = is })
