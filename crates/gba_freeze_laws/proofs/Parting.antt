-- The consoles of a run, of its first part, and of the run that goes on from there.
use Rattle.std.proofs.Common.{◌≡◌, ◌<◌, ◌∙◌, ℕ, zero, suc, List, [], ◌∷◌, length, get_or, map, Option, None, Some, refl, sym, ap, subst, arith}
use Rattle.std.specs.Prelude.{option_map, slice_get}
use Rattle.std.proofs.lemmas.Grind.{flat_map-append}
use Rattle.std.proofs.lemmas.Option.{slice_get-get_or}
use Rattle.gba_console.specs.Machine.{Machine}
use Rattle.gba_console.specs.Segments.{behind, behind_if, joined}
use Rattle.gba_freeze_laws.specs.Parts.{ArePartsOf, HasParts, parts_of}
use Rattle.gba_joblog.specs.declared.outputs.OutKind.{OutKind}
use Rattle.gba_joblog.specs.declared.outputs.OutKind.TheVariants.{Frames, Samples, Words, State, Save}
use Rattle.gba_output.specs.StateFile.{summary_line}
use Rattle.gba_output.specs.TransferWords.{words_line}
use Rattle.gba_session.specs.Files.{output_bytes}
use Rattle.gba_snapshot.proofs.Forgetting.{state-behind}
use Rattle.gba_thaw_laws.specs.Cut.{as_it_runs}
use Rattle.link_mapped.specs.Mapped.{each_mapped, mapped}
use Rattle.link_order.specs.Cut.{Cut}
use Rattle.gba_freeze_laws.proofs.Rested.{line-runs, state-runs}

-- ---- the console of a player

record Found (f : ℕ → Machine → Machine) (xs : List Machine) (k : ℕ) (z : Machine) : Type 0 where
  console : Machine
  there : slice_get xs k ≡ Some console
  is : f k console ≡ z

each-there : (f : ℕ → Machine → Machine) (xs : List Machine) (k : ℕ) (x : Machine) → slice_get xs k ≡ Some x
    → slice_get (each_mapped f xs) k ≡ Some (f k x)
each-there f [] k x there = absurd cc
each-there f (y ∷ ys) zero x there = ap (option_map (f 0)) there
each-there f (y ∷ ys) (suc k) x there = each-there (λ i. f (suc i)) ys k x there

found : (f : ℕ → Machine → Machine) (xs : List Machine) (k : ℕ) (z : Machine) → slice_get (each_mapped f xs) k ≡ Some z
    → Found f xs k z
found f [] k z there = absurd cc
found f (y ∷ ys) zero z there = record { console = y; there = refl; is = cc }
found f (y ∷ ys) (suc k) z there =
    let rest = found (λ i. f (suc i)) ys k z there in
    record { console = rest.console; there = rest.there; is = rest.is }

below-there : (xs : List Machine) (k : ℕ) (x : Machine) → slice_get xs k ≡ Some x → k < length xs
below-there [] k x there = absurd cc
below-there (y ∷ ys) zero x there = omega arith
below-there (y ∷ ys) (suc k) x there = let rest = below-there ys k x there in omega (arith, rest)

-- ---- the outputs of a console

behind-bytes : (first h : Machine) (kind : OutKind)
    → output_bytes kind (behind first h) ≡ parts_of kind (output_bytes kind first) (output_bytes kind h)
behind-bytes first h Frames = refl
behind-bytes first h Samples = refl
behind-bytes first h Words = flat_map-append words_line first.board.ended.words h.board.ended.words
behind-bytes first h State = state-behind first h
behind-bytes first h Save = refl

runs-bytes : (m : Machine) (kind : OutKind) → output_bytes kind (as_it_runs m) ≡ output_bytes kind m
runs-bytes m Frames = refl
runs-bytes m Samples = refl
runs-bytes m Words = refl
runs-bytes m State = state-runs m
runs-bytes m Save = refl

line-behind : (first h : Machine) → summary_line (behind first h) ≡ summary_line h
unfolding summary_line
line-behind first h = refl

are-parts : (first h second : Machine) → as_it_runs h ≡ as_it_runs second → ArePartsOf (behind first h) first second
are-parts first h second same = record {
  bytes = λ kind.
      behind-bytes first h kind
      ∙ ap (parts_of kind (output_bytes kind first))
      (sym (runs-bytes h kind) ∙ ap (output_bytes kind) same ∙ runs-bytes second kind);
  summary = line-behind first h ∙ sym (line-runs h) ∙ ap summary_line same ∙ line-runs second;
}

-- ---- all consoles

each-same : (f : Machine → List ℕ) → ((m : Machine) → f (as_it_runs m) ≡ f m) → (ms : List Machine)
    → map f (each_mapped (λ i. as_it_runs) ms) ≡ map f ms
each-same f same [] = refl
each-same f same (m ∷ ms) =
    ap (λ (one : List ℕ). one ∷ map f (each_mapped (λ i. as_it_runs) ms)) (same m)
    ∙ ap (λ (rest : List (List ℕ)). f m ∷ rest) (each-same f same ms)

each-behind : (firsts : ℕ → Option Machine) (ms : List Machine)
    → map summary_line (each_mapped (λ i. behind_if (firsts i)) ms) ≡ map summary_line ms
each-behind firsts [] = refl
each-behind firsts (m ∷ ms) =
    ap (λ (one : List ℕ). one ∷ map summary_line (each_mapped (λ i. behind_if (firsts (suc i))) ms))
    (by_first (firsts 0))
    ∙ ap (λ (rest : List (List ℕ)). summary_line m ∷ rest) (each-behind (λ i. firsts (suc i)) ms)
  where
    by_first : (first : Option Machine) → summary_line (behind_if first m) ≡ summary_line m
    by_first None = refl
    by_first (Some first) = line-behind first m

module _ (whole first rest second : Cut Machine) (is : whole ≡ joined first rest)
    (same : mapped (λ i. as_it_runs) rest ≡ mapped (λ i. as_it_runs) second)
    (many : length first.consoles ≡ length rest.consoles) where
  nodes : each_mapped (λ i. as_it_runs) rest.consoles ≡ each_mapped (λ i. as_it_runs) second.consoles
  nodes = ap (λ (c : Cut Machine). c.consoles) same

  pub have-parts : (player : ℕ) (m : Machine) → slice_get whole.consoles player ≡ Some m
      → HasParts first second player m
  have-parts player m there =
      let there_joined : slice_get (joined first rest).consoles player ≡ Some m =
      sym (ap (λ (c : Cut Machine). slice_get c.consoles player) is) ∙ there in
      let h = found (λ i. behind_if (slice_get first.consoles i)) rest.consoles player m there_joined in
      let within = below-there rest.consoles player h.console h.there in
      let before = get_or first.consoles player m in
      let is_before = slice_get-get_or first.consoles player m (omega (arith, within, many)) in
      let whole_is : behind before h.console ≡ m =
      sym (ap (λ (o : Option Machine). behind_if o h.console) is_before) ∙ h.is in
      let seen = each-there (λ i. as_it_runs) rest.consoles player h.console h.there in
      let g = found (λ i. as_it_runs) second.consoles player (as_it_runs h.console)
      (sym (ap (λ (ms : List Machine). slice_get ms player) nodes) ∙ seen) in
      record {
        before = before;
        is_before = is_before;
        after = g.console;
        is_after = g.there;
        parts =
            subst (λ (x : Machine). ArePartsOf x before g.console) whole_is
            (are-parts before h.console g.console (sym g.is));
      }

  pub same-lines : map summary_line whole.consoles ≡ map summary_line second.consoles
  same-lines =
      ap (λ (c : Cut Machine). map summary_line c.consoles) is
      ∙ each-behind (λ i. slice_get first.consoles i) rest.consoles
      ∙ sym (each-same summary_line line-runs rest.consoles) ∙ ap (map summary_line) nodes
      ∙ each-same summary_line line-runs second.consoles
