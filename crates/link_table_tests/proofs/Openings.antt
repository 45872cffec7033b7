-- A console of a test before its first step.
use Rattle.std.specs.Prelude.{List, [], ◌∷◌, ◌++◌, length, remove, replicate, map, Some, slice_get, option_map}
use Rattle.std.proofs.Common.{ℕ, zero, suc, get_or, drop, ◌≡◌, ◌+◌, ◌<◌, ◌≤◌, inl, inr, arith, refl, sym, ap, ◌∙◌, subst}
use Rattle.std.proofs.lemmas.Option.{slice_get-map, slice_get_read}
use Rattle.std.proofs.lemmas.List.{length-map, length-append, get_or-drop, drop_more}
use Rattle.std.proofs.Math.ListN.{get_or-append}
use Rattle.std.proofs.Math.Seq.{get_or-append_seam}
use Rattle.std.proofs.lemmas.List.Elements.{All-get_or}
use Rattle.atomic_table.specs.Seated.{TableId}
use Rattle.link_order.specs.Cut.{Cut, plain_cut, IsSound, IsCable}
use Rattle.link_order.proofs.Numbers.{same_or_apart}
use Rattle.link_order.specs.GlobalOrder.{trace}
use Rattle.link_laws.proofs.History.{trace_leads, moment_none}
use Rattle.link_rule.specs.Rule.{peer_at, opening_peer, opening_progress}
use Rattle.link_rule.proofs.Opening.{opening_peers}
use Rattle.link_table.specs.declared.key.Key.{Key}
use Rattle.link_table.specs.Text.{script_of}
use Rattle.link_table.specs.Seated.{SeatState}
use Rattle.link_table.specs.Opening.{opening_seat, Begins}
use Rattle.link_table.proofs.Openings.{read_map}
use Rattle.link_table_tests.specs.declared.ticker.Ticker.{Ticker}
use Rattle.link_table_tests.specs.declared.console.Heard.{Heard}
use Rattle.link_table_tests.specs.Ticking.{Ticked}
use Rattle.link_table_tests.specs.Following.{ticked_kind, ticked_plain, text_cut, heard_at, IsHeard, IsFollowing}
use Rattle.link_table_tests.specs.Following.{ConsoleState, console_state, IsFresh, HaveOneLimit, AreSeated}
use Rattle.link_table_tests.proofs.Stepping.{ticked_law}

nothing_heard : (j : ℕ) → heard_at (replicate 4 (record { seen = 0; taken = 0; count = 0 })) j
    ≡ record { seen = 0; taken = 0; count = 0 }
nothing_heard zero = refl
nothing_heard (suc zero) = refl
nothing_heard (suc (suc zero)) = refl
nothing_heard (suc (suc (suc zero))) = refl
nothing_heard (suc (suc (suc (suc j)))) = refl

pub opened : (node : Ticker) (seat : SeatState (Key Ticker)) → IsFresh node seat
    → IsFollowing node seat (replicate 4 (record { seen = 0; taken = 0; count = 0 }))
opened node seat f =
    let key : Key Ticker = f.key in
    let cut : Cut Ticked = text_cut key in
    let ps : List ℕ = trace ticked_kind cut key.limit in
    let none : List Heard = replicate 4 (record { seen = 0; taken = 0; count = 0 }) in
    let leads = trace_leads ticked_kind ticked_law cut key.limit f.cable.some_console f.cable.some_delay f.sound in
    let stands = (moment_none ticked_kind ticked_law key.limit ps cut f.player leads f.sound).console in
    let there : slice_get (map ticked_plain key.cut.value.consoles) f.player ≡ Some (ticked_plain node)
    = slice_get-map ticked_plain key.cut.value.consoles f.player ∙ ap (option_map ticked_plain) f.node_is in
    let both : length (map ticked_plain key.cut.value.consoles) ≡ length key.cut.value.consoles
    = length-map key.cut.value.consoles ticked_plain in
    let players : seat.players ≡ length key.cut.value.consoles = f.players_are in
    let most : length (map ticked_plain key.cut.value.consoles) ≤ 4 = f.cable.at_most_four in
    let four : seat.players ≤ 4 = omega arith in
    subst (λ (z : SeatState (Key Ticker)). IsFollowing node z none) (sym f.seat_is)
    (record {
      key = key;
      key_is = refl;
      cable = f.cable;
      sound = f.sound;
      script = f.script;
      stands = stands ∙ there;
      limit = f.limit;
      unwritten = refl;
      players_are = players;
      four = four;
      below = f.below;
      all_peers = refl;
      all_heard = refl;
      peers = λ j lj apart.
          let first : peer_at (opening_progress (script_of ticked_kind ticked_plain key)).peers j
          ≡ opening_peer (script_of ticked_kind ticked_plain key) j
          = opening_peers (script_of ticked_kind ticked_plain key) j (omega arith) in
          subst (IsHeard (heard_at none j)) (sym first)
          (subst (λ (h : Heard). IsHeard h (opening_peer (script_of ticked_kind ticked_plain key) j))
          (sym (nothing_heard j))
          (record {
            seen_is = omega arith;
            small = omega arith;
            based = omega arith;
            taken_is = refl;
            count_is = refl;
          }));
    })

-- a seat of a new table, and what tests see of its console
pub record IsDealt (table : TableId) (players player : ℕ) (node : Ticker) (seat : SeatState (Key Ticker)) : Type 0 where
  pub fresh : IsFresh node seat
  pub state : console_state seat ≡ record { table = table; player = player; players = players }

pub dealt_seat : (cut : Cut Ticker) (table : TableId) (seats : List (SeatState (Key Ticker))) (player : ℕ)
    (node : Ticker) (seat : SeatState (Key Ticker))
    → Begins ticked_kind ticked_plain (λ (t : Ticker). t.limit) cut table seats
    → IsCable (plain_cut ticked_plain cut) → IsSound ticked_kind (plain_cut ticked_plain cut)
    → HaveOneLimit cut.consoles → player < length cut.consoles → node ≡ get_or cut.consoles player node
    → seat ≡ get_or (drop player seats) 0 seat → IsDealt table (length cut.consoles) player node seat
dealt_seat cut table seats player node seat b cable sound one below node_at seat_at =
    let key : Key Ticker = b.key in
    let n : ℕ = length cut.consoles in
    let cuts : key.cut.value ≡ cut = b.cut_is in
    let total : length seats ≡ n = b.dealt.count_is in
    let at : seat ≡ get_or seats player seat
    = seat_at ∙ get_or-drop player seats 0 seat
    ∙ ap (λ (k : ℕ). get_or seats k seat) (let e : player + 0 ≡ player = omega arith in e) in
    let is : seat ≡ opening_seat ticked_kind ticked_plain key table player n
    = b.dealt.each player seat (slice_get_read seats n player seat (sym total) below at) in
    let table_is : seat.table ≡ table = ap (λ (z : SeatState (Key Ticker)). z.table) is in
    let players_is : seat.players ≡ n = ap (λ (z : SeatState (Key Ticker)). z.players) is in
    let own : node.limit ≡ one.limit
    = ap (λ (t : Ticker). t.limit) node_at
    ∙ All-get_or (λ (t : Ticker). t.limit ≡ one.limit) cut.consoles player node below one.all in
    let lengths : length (map (λ (t : Ticker). t.limit) cut.consoles) ≡ n =
    length-map cut.consoles (λ (t : Ticker). t.limit) in
    let place : ℕ = b.limit_is.place in
    let within : place < length (map (λ (t : Ticker). t.limit) cut.consoles) = b.limit_is.within in
    let least : key.limit ≡ one.limit
    = sym b.limit_is.one_of ∙ read_map (λ (t : Ticker). t.limit) cut.consoles place node (omega arith)
    ∙ All-get_or (λ (t : Ticker). t.limit ≡ one.limit) cut.consoles place node (omega arith) one.all in
    record {
      fresh = record {
        key = key;
        player = player;
        seat_is =
            is ∙ ap (λ (t : TableId). opening_seat ticked_kind ticked_plain key t player n) (sym table_is)
            ∙ ap (opening_seat ticked_kind ticked_plain key seat.table player) (sym players_is);
        players_are = players_is ∙ ap (λ (d : Cut Ticker). length d.consoles) (sym cuts);
        below = omega arith;
        node_is =
            ap (λ (d : Cut Ticker). slice_get d.consoles player) cuts
            ∙ slice_get_read cut.consoles n player node refl below node_at;
        cable = subst (λ (d : Cut Ticker). IsCable (plain_cut ticked_plain d)) (sym cuts) cable;
        sound = subst (λ (d : Cut Ticker). IsSound ticked_kind (plain_cut ticked_plain d)) (sym cuts) sound;
        script = b.sound;
        limit = omega arith;
      };
      state = ap console_state is;
    }

-- what is left of the seats after one more was taken from the front
pub left_on : (seats left new : List (SeatState (Key Ticker))) (player : ℕ) (seat : SeatState (Key Ticker))
    → left ≡ drop player seats → player < length seats → new ≡ remove left 0 → new ≡ drop (player + 1) seats
left_on seats left new player seat is below next =
    next ∙ ap (λ (l : List (SeatState (Key Ticker))). remove l 0) (is ∙ drop_more seats player seat below)

-- a console is what its table and its two numbers are
pub same_console : (x y : ConsoleState) → x.table ≡ y.table → x.player ≡ y.player → x.players ≡ y.players → x ≡ y
same_console x y table player players =
    ap (λ (t : TableId). record { table = t; player = x.player; players = x.players }) table
    ∙ ap (λ (i : ℕ). record { table = y.table; player = i; players = x.players }) player
    ∙ ap (λ (n : ℕ). record { table = y.table; player = y.player; players = n }) players

-- one console more
pub seated_on : (table : TableId) (players count : ℕ) (old new : List ConsoleState) (console : ConsoleState)
    → AreSeated table players count old → new ≡ old ++ console ∷ []
    → console ≡ record { table = table; player = count; players = players } → AreSeated table players (count + 1) new
seated_on table players count old new console h is console_is =
    let lengths : length old ≡ count = h.count_is in
    record {
      count_is = ap length is ∙ length-append old (console ∷ []) ∙ omega arith;
      each = λ i other li.
          elim (same_or_apart i count) [
            | inl e ↦
                ap (λ (l : List ConsoleState). get_or l i other) is
                ∙ ap (λ (k : ℕ). get_or (old ++ console ∷ []) k other) (e ∙ sym lengths)
                ∙ get_or-append_seam old console [] other ∙ console_is
                ∙ ap (λ (k : ℕ). record { table = table; player = k; players = players }) (sym e)
            | inr e ↦
                ap (λ (l : List ConsoleState). get_or l i other) is
                ∙ get_or-append old (console ∷ []) other i (omega arith) ∙ h.each i other (omega arith)
          ];
    }
