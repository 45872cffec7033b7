-- What the store of a clock word asks of the table, and what it makes of the seat.
use Rattle.std.specs.Prelude.{[], length, Option, None, IsSome}
use Rattle.std.specs.Prelude.{false, if◌then◌else◌, option_to_list}
use Rattle.std.proofs.Common.{ℕ, ◌≡◌, ◌+◌, ◌%◌, ◌<◌, ◌≤◌, ◌^◌, arith, refl, sym, ap, ◌∙◌, subst, inl, inr}
use Rattle.std.proofs.lemmas.Bool.{cases_Bool}
use Rattle.std.proofs.lemmas.List.{length-map}
use Rattle.std.proofs.lemmas.Option.{slice_get_within}
use mathlib.Core.Option.{none}
use mir.Val.{bool_byte}
use Rattle.atomic_table.specs.Table.{Allows, step}
use Rattle.link_node.specs.declared.signal.Signal.{Signal}
use Rattle.link_order.specs.NodeKind.{NodeKind}
use Rattle.link_script.specs.Script.{Script, now, sent, IsSoundMove}
use Rattle.link_script.proofs.Scripts.{sent_small, sent_next}
use Rattle.link_rule.specs.declared.view.Peer.{Peer}
use Rattle.link_rule.specs.declared.view.Progress.{Progress}
use Rattle.link_rule.specs.Words.{clock_place, clock_word}
use Rattle.link_rule.specs.Rule.{seat_of, holds}
use Rattle.link_rule.specs.Steps.{unlooked, stepped_on, MayPublish, Publishes, PublishesBy, publishes}
use Rattle.link_rule.proofs.Decoding.{clock_part}
use Rattle.link_rule.proofs.Publishing.{IsWritten, publish_allowed, unlooked_at, tells_cases}
use Rattle.link_table.specs.declared.key.Key.{Key}
use Rattle.link_table.specs.declared.seat.Seat.TheInside.{Inside}
use Rattle.link_table.specs.Text.{script_of}
use Rattle.link_table.specs.Seated.{IsSeat}
use Rattle.link_table.proofs.Seats.{Mine, Place, IsAfter}

-- the flag as a number
pub is_written : {N C : Type 0} (kind : NodeKind C) (plain : N → C) (s : Inside N) (flag : ℕ)
    → (h : IsSeat kind plain s) → flag ≡ bool_byte s.written → IsWritten h.made.written flag
is_written kind plain s flag h is =
    elim (cases_Bool s.written) [
      | inl set ↦ record {
        cases = inr (h.written_is ∙ ap (λ b. if b then 2 else 0) set, is ∙ ap bool_byte set);
      }
      | inr clear ↦ record {
        cases = inl (h.written_is ∙ ap (λ b. if b then 2 else 0) clear, is ∙ ap bool_byte clear);
      }
    ]

-- the numbers that the code makes fit 64 bits
pub record AreSmall (sent flag clock : ℕ) : Type 0 where
  pub sent_small : sent < 2 ^ 40
  pub flag_small : flag ≤ 1
  pub clock_small : clock < 2 ^ 40

pub are_small : {N C : Type 0} (kind : NodeKind C) (plain : N → C) (s : Inside N) (flag clock : ℕ)
    → (h : IsSeat kind plain s) → IsWritten h.made.written flag
    → MayPublish (script_of kind plain h.key) s.player h.made clock → AreSmall s.sent flag clock
are_small kind plain st flag clock h w may =
    let s : Script = script_of kind plain h.key in
    let inside : st.player < s.players = subst (λ (n : ℕ). st.player < n) h.players_is h.below in
    let small = sent_small s h.sound st.player h.made.steps inside in
    let move : IsSoundMove (now s st.player (h.made.steps + may.silent)) may.move
    = h.sound.moves st.player inside (h.made.steps + may.silent) may.move may.stands in
    let far : may.move.clock < 2 ^ 40 = move.small in
    record {
      sent_small = omega (arith, h.sent_is, h.placed.counted, small);
      flag_small = elim w.cases [ inl t ↦ omega (arith, t.1) | inr t ↦ omega (arith, t.1) ];
      clock_small = omega (arith, may.clock_is, far);
    }

pub may_publish : {N C : Type 0} (kind : NodeKind C) (plain : N → C) (table_key : Key N)
    (slots word value flag clock : ℕ) (s : Inside N) → (h : IsSeat kind plain s)
    → MayPublish (script_of kind plain h.key) s.player h.made clock → IsWritten h.made.written flag
    → word ≡ clock_place s.player → value ≡ clock_word clock (s.sent + flag)
    → Allows (holds (script_of kind plain) table_key) slots s.place.id s.place.me word (λ n. value)
    (λ n. publishes (script_of kind plain) (step slots word value 0 none) s.place.me value)
may_publish {N = N} kind plain table_key slots word value flag clock s h may w word_is value_is =
    let at : ℕ = clock_place s.player in
    subst (λ (z : ℕ). Allows (holds (script_of kind plain) table_key) slots s.place.id s.place.me z (λ n. value)
    (λ n. publishes (script_of kind plain) (step slots z value 0 none) s.place.me value)) (sym word_is)
    (subst (λ (m : Mine N). Allows (holds (script_of kind plain) table_key) slots s.place.id m at (λ n. value)
    (λ n. publishes (script_of kind plain) (step slots at value 0 none) m value)) (sym h.me_is)
    (publish_allowed (script_of kind plain) table_key h.key slots s.place.id s.player h.made clock value flag may w
    (value_is ∙ ap (λ (n : ℕ). clock_word clock (n + flag)) h.sent_is)))

-- what the seat has done
pub record HasPublished {N C : Type 0} (kind : NodeKind C) (plain : N → C) (key : Key N) (player : ℕ) (after : Mine N)
    (old : Progress) (flag clock : ℕ) : Type 0
  where
    pub made : Progress
    pub seat : IsAfter key player after made
    pub step : Publishes (script_of kind plain key) player old clock made
    pub count_is : flag ≡ length (option_to_list step.made.move.tells)

-- a clock word tells its clock
same_clock : (a b m n : ℕ) → a < 2 ^ 40 → b < 2 ^ 40 → clock_word a m ≡ clock_word b n → a ≡ b
same_clock a b m n small_a small_b e =
    sym (clock_part a m small_a) ∙ ap (λ (w : ℕ). w % 2 ^ 40) e ∙ clock_part b n small_b

-- the flag tells whether the step sent a signal
flag_is : (o : Option Signal) (written flag : ℕ) → (IsSome o → written ≡ 2) → (o ≡ None → written ≡ 0)
    → IsWritten written flag → flag ≡ length (option_to_list o)
flag_is o written flag whole unsent w =
    elim (tells_cases o) [
      | inl quiet ↦
          let none_sent : length (option_to_list o) ≡ 0
          = ap (λ (z : Option Signal). length (option_to_list z)) quiet in
          let nothing : written ≡ 0 = unsent quiet in
          elim w.cases [
            | inl c ↦ c.1 ∙ sym none_sent
            | inr c ↦ let two : written ≡ 2 = c.0 in absurd (omega arith)
          ]
      | inr loud ↦
          let one_sent : length (option_to_list o) ≡ 1
          = ap (λ (z : Option Signal). length (option_to_list z)) loud.1 in
          let two : written ≡ 2 = whole (subst (λ (z : Option Signal). IsSome z) (sym loud.1) refl) in
          elim w.cases [
            | inl c ↦ let nothing : written ≡ 0 = c.0 in absurd (omega arith)
            | inr c ↦ c.1 ∙ sym one_sent
          ]
    ]

pub has_published : {N C : Type 0} (kind : NodeKind C) (plain : N → C) (slots word value flag clock : ℕ) (s : Inside N)
    (after : Mine N) → (h : IsSeat kind plain s) → MayPublish (script_of kind plain h.key) s.player h.made clock
    → IsWritten h.made.written flag → value ≡ clock_word clock (s.sent + flag)
    → publishes (script_of kind plain) (step slots word value 0 none) s.place.me value after
    → HasPublished kind plain h.key s.player after h.made flag clock
has_published {N = N} kind plain slots word value flag clock st after h may w value_is told =
    let s : Script = script_of kind plain h.key in
    let inside : st.player < s.players = subst (λ (n : ℕ). st.player < n) h.players_is h.below in
    let t = told h.key st.player h.made (ap (λ (m : Mine N). m.0) h.me_is) in
    let by : PublishesBy s st.player h.made value t.0 = t.2 in
    let m = by.publishes.made in
    let small = are_small kind plain st flag clock h w may in
    let other = are_small kind plain st flag by.clock h w m in
    let same : by.clock ≡ clock
    = same_clock by.clock clock t.0.sent (st.sent + flag) other.clock_small small.clock_small
    (sym by.word_is ∙ value_is) in
    let p : Publishes s st.player h.made clock t.0
    = subst (λ (c : ℕ). Publishes s st.player h.made c t.0) same by.publishes in
    record {
      made = t.0;
      seat = record { after_is = t.1 ∙ ap (λ (m : Mine N). (seat_of h.key st.player t.0, m.1)) h.me_is };
      step = p;
      count_is = flag_is p.made.move.tells h.made.written flag p.made.written p.made.unwritten w;
    }

-- the seat's fields after it
abbrev pub published_fields : {N : Type 0} → Inside N → Place N → ℕ → Inside N
published_fields s place flag = record {
  place = place;
  player = s.player;
  players = s.players;
  delays = s.delays;
  sent = s.sent + flag;
  written = false;
  taken = s.taken;
}

pub published_seat : {N C : Type 0} (kind : NodeKind C) (plain : N → C) (s : Inside N) (place : Place N)
    (flag clock : ℕ) → (h : IsSeat kind plain s) → HasPublished kind plain h.key s.player place.me h.made flag clock
    → IsSeat kind plain (published_fields s place flag)
published_seat {N = N} kind plain st place flag clock h l =
    let s : Script = script_of kind plain h.key in
    let m = l.step.made in
    let k : ℕ = h.made.steps + m.silent in
    let sends : ℕ = length (option_to_list m.move.tells) in
    let made_is : l.made ≡ stepped_on h.made m.silent sends = l.step.new_is in
    let less = slice_get_within (s.line st.player).moves k m.move m.stands in
    let next = sent_next s st.player k m.move m.stands in
    let quiet : sent s st.player k ≡ sent s st.player h.made.steps = m.quiet in
    let counted : h.made.sent ≡ sent s st.player h.made.steps = h.placed.counted in
    let count_is : flag ≡ sends = l.count_is in
    record {
      key = h.key;
      made = stepped_on h.made m.silent sends;
      me_is = l.seat.after_is ∙ ap (λ (r : Progress). (seat_of h.key st.player r, [])) made_is;
      below = h.below;
      players_is = h.players_is;
      sound = h.sound;
      delays_are = h.delays_are;
      within = h.within;
      placed = record {
        within = omega (arith, less);
        counted = omega (arith, next);
        all_peers = length-map h.made.peers unlooked ∙ h.placed.all_peers;
      };
      sent_is = omega (arith, h.sent_is);
      written_is = refl;
      wide = h.wide;
      taken_is = λ j lj. h.taken_is j lj ∙ sym (ap (λ (z : Peer). z.taken) (unlooked_at h.made.peers j));
    }
