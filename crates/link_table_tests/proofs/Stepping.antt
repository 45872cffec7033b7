-- A console of a test makes the trace's next step.
use Rattle.std.specs.Prelude.{List, [], ◌∷◌, length, Option, None, Some, IfSome, IsSome, slice_get, option_to_list}
use Rattle.std.proofs.Common.{ℕ, suc, ◌≡◌, ◌+◌, ◌*◌, ◌<◌, ◌≤◌, arith, refl, sym, ap, ◌∙◌, subst}
use Rattle.std.proofs.lemmas.List.{append-nil, length-map}
use Rattle.link_node.specs.declared.signal.Signal.{Signal}
use Rattle.link_order.specs.NodeKind.{IsLawful}
use Rattle.link_order.specs.Order.{from}
use Rattle.link_order.specs.Cut.{Cut, count, clock_at, hop, IsSound, IsCable}
use Rattle.link_order.specs.GlobalOrder.{trace, run}
use Rattle.link_order.specs.Interleaving.{moment}
use Rattle.link_order.specs.Way.{Move, move_of, moves_of, clock_after, console_after}
use Rattle.link_order.proofs.Lists.{all_nil}
use Rattle.link_laws.proofs.Advance.{number_found}
use Rattle.link_trace.proofs.Ways.{ways, turns}
use Rattle.link_script.specs.Script.{Script, sent}
use Rattle.link_script.proofs.Lines.{clock_next}
use Rattle.link_script.proofs.Scripts.{sent_here}
use Rattle.link_rule.specs.declared.view.Progress.{Progress}
use Rattle.link_rule.specs.Rule.{peer_at, IsNextSignal}
use Rattle.link_rule.proofs.Publishing.{unlooked_at, same_silent}
use Rattle.link_rule.specs.Steps.{with_written, unlooked, stepped_on, MayPublish, Publishes}
use Rattle.link_table.specs.declared.key.Key.{Key}
use Rattle.link_table.specs.Text.{script_of}
use Rattle.link_table.specs.Seated.{SeatState, with_made}
use Rattle.link_table_tests.specs.declared.ticker.Ticker.{Ticker}
use Rattle.link_table_tests.specs.Ticking.{Ticked, ticked_told, ticked_next, ticked_rises, ticked_short, ticked_bears}
use Rattle.link_table_tests.specs.Ticking.{ticked_fits}
use Rattle.link_table_tests.specs.declared.console.Heard.{Heard}
use Rattle.link_table_tests.specs.Following.{ticked_kind, ticked_plain, text_cut, heard_at, IsHeard, IsFollowing, IsBefore}

pub ticked_law : IsLawful ticked_kind
ticked_law = record {
  rises = ticked_rises;
  short = ticked_short;
  moves = λ r due. refl;
  bears = ticked_bears;
  fits = ticked_fits;
}

-- the next step of console x of player i
record NextStep (cut : Cut Ticked) (until i k : ℕ) (x : Ticked) : Type 0 where
  move : Move
  stands : slice_get (moves_of ticked_kind cut (trace ticked_kind cut until) i) k ≡ Some move
  clock_is : move.clock ≡ (ticked_next x []).0.clock
  tells_is : move.tells ≡ ticked_told x
  own_clock : clock_after (clock_at ticked_kind cut i) (moves_of ticked_kind cut (trace ticked_kind cut until) i) k
      ≡ x.clock
  goes_on : console_after ticked_kind cut (trace ticked_kind cut until) i (suc k) ≡ Some (ticked_next x []).0

next_step : (cut : Cut Ticked) (until i k : ℕ) (x : Ticked) → IsCable cut → IsSound ticked_kind cut → i < count cut
    → console_after ticked_kind cut (trace ticked_kind cut until) i k ≡ Some x → x.clock < until
    → NextStep cut until i k x
next_step cut until i k x cable sound below stands early =
    let ps : List ℕ = trace ticked_kind cut until in
    let t = turns ticked_kind ticked_law cut until i k x (λ j. from j (run ticked_kind cut until).sent)
    (λ j. suc x.clock) cable sound (record {
      player = below;
      stands = stands;
      early = early;
      knows = λ j lj apart. record {
        rest = [];
        all_is = sym (append-nil (from j (run ticked_kind cut until).sent));
        late = all_nil (λ (s : Signal). suc x.clock ≤ s.clock);
      };
      ahead = λ j lj apart. omega arith;
    }) in
    let w = ways ticked_kind ticked_law cut until i cable sound below in
    let step = w.steps k t.goes in
    let move : Move = move_of ticked_kind (moment ticked_kind cut ps i k) i in
    let there = number_found ticked_kind.clock (moment ticked_kind cut ps i (suc k)).consoles i (ticked_next x []).0
    t.console in
    let here = number_found ticked_kind.clock (moment ticked_kind cut ps i k).consoles i x stands in
    record {
      move = move;
      stands = step.move_is;
      clock_is =
          sym (clock_next (clock_at ticked_kind cut i) (moves_of ticked_kind cut ps i) k move step.move_is)
          ∙ sym (w.clock_is (suc k)) ∙ there;
      tells_is = t.tells;
      own_clock = sym (w.clock_is k) ∙ here;
      goes_on = t.console;
    }

-- what a console's step needs of its seat, and where it stands then
pub record MayGo (node : Ticker) (seat : SeatState (Key Ticker)) (key : Key Ticker) : Type 0 where
  pub signal : (x : Signal) → ticked_told (ticked_plain node) ≡ Some x
      → IsNextSignal (script_of ticked_kind ticked_plain key) seat.player seat.made.steps x
  pub publish : (clock : ℕ) → clock ≡ (ticked_next (ticked_plain node) []).0.clock
      → MayPublish (script_of ticked_kind ticked_plain key) seat.player
      (with_written seat.made (2 * length (option_to_list (ticked_told (ticked_plain node))))) clock
  pub alone : (clock : ℕ) (is : clock ≡ (ticked_next (ticked_plain node) []).0.clock) → (publish clock is).silent ≡ 0
  pub goes_on : console_after ticked_kind (text_cut key) (trace ticked_kind (text_cut key) key.limit) seat.player
      (suc seat.made.steps) ≡ Some (ticked_next (ticked_plain node) []).0

whole : (o : Option Signal) → IsSome o → 2 * length (option_to_list o) ≡ 2
whole None some = let t : _ = some in absurd cc
whole (Some x) some = refl

pub may_go : (node : Ticker) (seat : SeatState (Key Ticker)) (heard : List Heard) (f : IsFollowing node seat heard)
    → node.clock < node.limit → IsBefore node.clock seat heard seat.players → MayGo node seat f.key
unfolding script_of
may_go node seat heard f early before =
    let key : Key Ticker = f.key in
    let cut : Cut Ticked = text_cut key in
    let x : Ticked = ticked_plain node in
    let players = f.players_are in
    let own_place = f.below in
    let both : count cut ≡ length key.cut.value.consoles = length-map key.cut.value.consoles ticked_plain in
    let limit = f.limit in
    let none : seat.made.steps + 0 ≡ seat.made.steps = omega arith in
    let n =
    next_step cut key.limit seat.player seat.made.steps x f.cable f.sound (omega arith) f.stands (omega arith) in
    record {
      signal = λ s e. sent_here (script_of ticked_kind ticked_plain key) seat.player seat.made.steps n.move s n.stands
          (n.tells_is ∙ e);
      alone = λ clock is. refl;
      publish = λ clock is. record {
        silent = 0;
        move = n.move;
        stands =
            ap (slice_get (moves_of ticked_kind cut (trace ticked_kind cut key.limit) seat.player)) none ∙ n.stands;
        quiet = ap (sent (script_of ticked_kind ticked_plain key) seat.player) none;
        unwritten = λ quiet.
            ap (λ (o : Option Signal). 2 * length (option_to_list o)) (sym n.tells_is ∙ quiet);
        clock_is = is ∙ sym n.clock_is;
        written = λ some.
            whole (ticked_told x) (subst (λ (o : Option Signal). IsSome o) n.tells_is some);
        allowed = λ j below apart.
            let less : j < count cut = below in
            let own = n.own_clock in
            let within : j < seat.players = omega arith in
            let ahead : node.clock < (heard_at heard j).seen + hop cut j seat.player =
            before key f.key_is j within apart in
            let base : (heard_at heard j).seen ≤ (peer_at seat.made.peers j).base = (f.peers j within apart).seen_is in
            let here : clock_after (clock_at ticked_kind cut seat.player)
            (moves_of ticked_kind cut (trace ticked_kind cut key.limit) seat.player) (seat.made.steps + 0)
            ≡ clock_after (clock_at ticked_kind cut seat.player)
            (moves_of ticked_kind cut (trace ticked_kind cut key.limit) seat.player) seat.made.steps
            = ap (clock_after (clock_at ticked_kind cut seat.player)
            (moves_of ticked_kind cut (trace ticked_kind cut key.limit) seat.player)) none in
            omega (arith, here, own, base, ahead);
      };
      goes_on = n.goes_on;
    }

if_some : (o : Option Signal) (P : Signal → Type 0) → ((x : Signal) → o ≡ Some x → P x) → IfSome o P
if_some None P h = tt
if_some (Some x) P h = h x refl

own_key : (node : Ticker) (seat : SeatState (Key Ticker)) (heard : List Heard)
    (f : IsFollowing node seat heard) (key : Key Ticker) → seat.key ≡ key ∷ [] → f.key ≡ key
own_key node seat heard f key keys =
    let both : f.key ∷ [] ≡ key ∷ [] = sym f.key_is ∙ keys in
    cc

-- the signal is the next step's
pub told_next : (node : Ticker) (seat : SeatState (Key Ticker)) (heard : List Heard)
    (f : IsFollowing node seat heard) → MayGo node seat f.key → (o : Option Signal)
    → o ≡ ticked_told (ticked_plain node)
    → IfSome o (λ s. (key : Key Ticker) → seat.key ≡ key ∷ []
    → IsNextSignal (script_of ticked_kind ticked_plain key) seat.player seat.made.steps s)
told_next node seat heard f go o is =
    if_some o _ (λ x e key keys.
    subst (λ (k : Key Ticker). IsNextSignal (script_of ticked_kind ticked_plain k) seat.player seat.made.steps x)
    (own_key node seat heard f key keys) (go.signal x (sym is ∙ e)))

-- and its clock may be published
pub publish_next : (node : Ticker) (seat after : SeatState (Key Ticker)) (heard : List Heard)
    (f : IsFollowing node seat heard) → MayGo node seat f.key → (o : Option Signal)
    → o ≡ ticked_told (ticked_plain node)
    → after ≡ with_made seat (with_written seat.made (2 * length (option_to_list o))) → (clock : ℕ)
    → clock ≡ (ticked_next (ticked_plain node) []).0.clock → (key : Key Ticker) → after.key ≡ key ∷ []
    → MayPublish (script_of ticked_kind ticked_plain key) after.player after.made clock
publish_next node seat after heard f go o is after_is clock clock_is key keys =
    let own : seat.key ≡ key ∷ [] = ap (λ (z : SeatState (Key Ticker)). z.key) (sym after_is) ∙ keys in
    let written : Option Signal → Progress =
    λ (t : Option Signal). with_written seat.made (2 * length (option_to_list t)) in
    let all : after ≡ with_made seat (written (ticked_told (ticked_plain node)))
    = after_is ∙ ap (λ (t : Option Signal). with_made seat (written t)) is in
    subst (λ (z : SeatState (Key Ticker)). MayPublish (script_of ticked_kind ticked_plain key) z.player z.made clock)
    (sym all)
    (subst (λ (k : Key Ticker). MayPublish (script_of ticked_kind ticked_plain k) seat.player
    (written (ticked_told (ticked_plain node))) clock)
    (own_key node seat heard f key own) (go.publish clock clock_is))

-- after a step, the only one that was published
pub stepped : (node next : Ticker) (seat told after : SeatState (Key Ticker)) (heard : List Heard)
    (f : IsFollowing node seat heard)
    → console_after ticked_kind (text_cut f.key) (trace ticked_kind (text_cut f.key) f.key.limit) seat.player
    (suc seat.made.steps) ≡ Some (ticked_plain next)
    → next.limit ≡ node.limit → (written clock : ℕ) → told ≡ with_made seat (with_written seat.made written)
    → after ≡ with_made told after.made
    → (own : MayPublish (script_of ticked_kind ticked_plain f.key) seat.player (with_written seat.made written) clock)
    → own.silent ≡ 0
    → Publishes (script_of ticked_kind ticked_plain f.key) told.player told.made clock after.made
    → IsFollowing next after heard
unfolding script_of
stepped node next seat told after heard f stands limit written clock told_is is own one p =
    let s : Script = script_of ticked_kind ticked_plain f.key in
    let mid : Progress = with_written seat.made written in
    let q : Publishes s seat.player mid clock after.made
    = subst (λ (z : SeatState (Key Ticker)). Publishes s z.player z.made clock after.made) told_is p in
    let sends : ℕ = length (option_to_list q.made.move.tells) in
    let players : seat.players ≡ length f.key.cut.value.consoles = f.players_are in
    let both : s.players ≡ length f.key.cut.value.consoles = length-map f.key.cut.value.consoles ticked_plain in
    let below : seat.player < seat.players = f.below in
    let silent : q.made.silent ≡ 0 = same_silent s seat.player mid clock f.script (omega arith) q.made own ∙ one in
    let none : suc (seat.made.steps + 0) ≡ suc seat.made.steps = omega arith in
    let made_is : after.made ≡ stepped_on mid 0 sends
    = q.new_is ∙ ap (λ (n : ℕ). stepped_on mid n sends) silent in
    let seat_is : after ≡ with_made seat (stepped_on mid 0 sends)
    = is ∙ ap (λ (z : SeatState (Key Ticker)). with_made z after.made) told_is ∙ ap (with_made seat) made_is in
    subst (λ (z : SeatState (Key Ticker)). IsFollowing next z heard) (sym seat_is)
    (record {
      key = f.key;
      key_is = f.key_is;
      cable = f.cable;
      sound = f.sound;
      script = f.script;
      stands =
          ap (λ (k : ℕ). console_after ticked_kind (text_cut f.key) (trace ticked_kind (text_cut f.key) f.key.limit)
          seat.player k) none ∙ stands;
      limit = let a = f.limit in omega arith;
      unwritten = refl;
      players_are = f.players_are;
      four = f.four;
      below = f.below;
      all_peers = length-map seat.made.peers unlooked ∙ f.all_peers;
      all_heard = f.all_heard;
      peers = λ j lj apart.
          let h : IsHeard (heard_at heard j) (peer_at seat.made.peers j) = f.peers j lj apart in
          subst (IsHeard (heard_at heard j)) (sym (unlooked_at seat.made.peers j))
          (record {
            seen_is = h.seen_is;
            small = h.small;
            based = h.based;
            taken_is = h.taken_is;
            count_is = h.count_is;
          });
    })
