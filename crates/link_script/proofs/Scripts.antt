-- The law of the script, and the lemmas on lines in the words of a sound script.
use Rattle.std.specs.Prelude.{List, length, Option, None, Some, IfSome, slice_get, option_to_list}
use Rattle.std.proofs.Common.{ℕ, suc, ◌≡◌, ◌+◌, ◌<◌, ◌≤◌, ◌^◌, arith, sym, ◌∙◌, subst}
use Rattle.std.proofs.lemmas.Option.{slice_get_within}
use Rattle.link_node.specs.declared.signal.Signal.{Signal}
use Rattle.link_node.specs.Due.{FitsWidths}
use Rattle.link_order.specs.NodeKind.{NodeKind, IsLawful}
use Rattle.link_order.specs.Cut.{Cut, clock_at}
use Rattle.link_order.specs.GlobalOrder.{trace}
use Rattle.link_order.specs.Interleaving.{moment, count_of}
use Rattle.link_order.specs.Way.{Move, move_of, moves_of, clock_after}
use Rattle.link_trace.specs.Law.{IsWay, IsStep}
use Rattle.link_trace.proofs.Ways.{ways}
use Rattle.link_script.specs.Script.{IsBorne, AreSoundMoves, IsSoundScript, Script}
use Rattle.link_script.specs.Script.{HasSoundScripts, now, sent, told}
use Rattle.link_script.proofs.Lines.{clock_next, clock_up, clock_small, count_next, count_up, count_small}
use Rattle.link_script.proofs.Lines.{told_here, told_there, told_early, told_late, told_apart, told_is, Told}

borne_of : (clock : ℕ) (o : Option Signal) → IfSome o (λ s. s.clock ≡ clock) → IfSome o FitsWidths
    → IfSome o (IsBorne clock)
borne_of clock (Some s) bears fits = record { clock_is = bears; fits = fits }
borne_of clock None bears fits = tt

sound_move : {C : Type 0} (kind : NodeKind C) (cut : Cut C) (until i : ℕ) → until ≤ 2 ^ 39
    → IsWay kind cut (trace kind cut until) until i
    → AreSoundMoves (clock_at kind cut i) (moves_of kind cut (trace kind cut until) i)
sound_move {C = C} kind cut until i short way k move stands =
    let ps : List ℕ = trace kind cut until in
    let moves : List Move = moves_of kind cut ps i in
    let less : k < length moves = slice_get_within moves k move stands in
    let count : length moves ≡ count_of i ps = way.count_is in
    let step : IsStep kind cut ps until i k = way.steps k (omega arith) in
    let m : Cut C = moment kind cut ps i k in
    let is : Some (move_of kind m i) ≡ Some move = sym step.move_is ∙ stands in
    let same : move_of kind m i ≡ move = cc in
    let here : clock_at kind m i ≡ clock_after (clock_at kind cut i) moves k = way.clock_is k in
    let there : clock_at kind (moment kind cut ps i (suc k)) i ≡ clock_after (clock_at kind cut i) moves (suc k)
    = way.clock_is (suc k) in
    let next : clock_after (clock_at kind cut i) moves (suc k) ≡ move.clock
    = clock_next (clock_at kind cut i) moves k move stands in
    let rises = step.rises in
    let far = step.short in
    let early = step.early in
    record {
      rises = omega arith;
      short = omega arith;
      small = omega arith;
      bears = subst (λ (z : ℕ). IfSome move.tells (IsBorne z)) here
          (subst (λ (z : Move). IfSome z.tells (IsBorne (clock_at kind m i))) same
          (borne_of (clock_at kind m i) (move_of kind m i).tells step.bears step.fits));
    }

pub scripts : {C : Type 0} (kind : NodeKind C) → IsLawful kind → HasSoundScripts kind
scripts kind law cut until cable sound short opens = record {
  some_player = cable.some_console;
  at_most_four = cable.at_most_four;
  opens = opens;
  moves = λ i below. sound_move kind cut until i short (ways kind law cut until i cable sound below);
  near = sound.near;
  some_delay = cable.some_delay;
  short_delay = cable.short_delay;
}

-- the lemmas on lines, of a player of a sound script

pub now_up : (s : Script) → IsSoundScript s → (i k l : ℕ) → i < s.players → k ≤ l → now s i k ≤ now s i l
now_up s h i k l below le = clock_up (s.line i).clock (s.line i).moves (h.moves i below) k l le

pub sent_up : (s : Script) → IsSoundScript s → (i k l : ℕ) → i < s.players → k ≤ l → sent s i k ≤ sent s i l
sent_up s h i k l below le = count_up (s.line i).clock (s.line i).moves (h.moves i below) k l le

pub now_small : (s : Script) → IsSoundScript s → (i k : ℕ) → i < s.players → now s i k < 2 ^ 40
now_small s h i k below = clock_small (s.line i).clock (s.line i).moves (h.moves i below) (h.opens i below) k

pub sent_small : (s : Script) → IsSoundScript s → (i k : ℕ) → i < s.players → sent s i k < 2 ^ 40
sent_small s h i k below =
    let a = now_small s h i k below in
    let b = count_small (s.line i).clock (s.line i).moves (h.moves i below) k in
    omega (arith, a, b)

pub now_next : (s : Script) (i k : ℕ) (m : Move) → slice_get (s.line i).moves k ≡ Some m → now s i (suc k) ≡ m.clock
now_next s i k m e = clock_next (s.line i).clock (s.line i).moves k m e

pub sent_next : (s : Script) (i k : ℕ) (m : Move) → slice_get (s.line i).moves k ≡ Some m
    → sent s i (suc k) ≡ sent s i k + length (option_to_list m.tells)
sent_next s i k m e = count_next (s.line i).moves k m e

pub sent_here : (s : Script) (i k : ℕ) (m : Move) (x : Signal) → slice_get (s.line i).moves k ≡ Some m
    → m.tells ≡ Some x → slice_get (told s i) (sent s i k) ≡ Some x
sent_here s i k m x e tells = told_here (s.line i).moves k m x e tells

pub sent_there : (s : Script) (i n k : ℕ) → n < sent s i k → (x : Signal) × (slice_get (told s i) n ≡ Some x)
sent_there s i n k below = told_there (s.line i).moves n k below

pub signal_early : (s : Script) → IsSoundScript s → (i n k : ℕ) (x : Signal) → i < s.players
    → slice_get (told s i) n ≡ Some x → n < sent s i k → x.clock < now s i k
signal_early s h i n k x below e less =
    told_early (s.line i).clock (s.line i).moves (h.moves i below) n k x e less

pub signal_late : (s : Script) → IsSoundScript s → (i n k : ℕ) (x : Signal) → i < s.players
    → slice_get (told s i) n ≡ Some x → sent s i k ≤ n → now s i k ≤ x.clock
signal_late s h i n k x below e past = told_late (s.line i).clock (s.line i).moves (h.moves i below) n k x e past

pub signals_apart : (s : Script) → IsSoundScript s → (i a b : ℕ) (x y : Signal) → i < s.players
    → slice_get (told s i) a ≡ Some x → slice_get (told s i) b ≡ Some y → a ≤ b → b + x.clock ≤ a + y.clock
signals_apart s h i a b x y below ex ey le =
    told_apart (s.line i).clock (s.line i).moves (h.moves i below) a b x y ex ey le

pub signal_is : (s : Script) → IsSoundScript s → (i n : ℕ) (x : Signal) → i < s.players
    → slice_get (told s i) n ≡ Some x → Told (s.line i).clock (s.line i).moves n x
signal_is s h i n x below e = told_is (s.line i).clock (s.line i).moves (h.moves i below) n x e
