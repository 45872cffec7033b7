-- What a lane answers when it stops, and what stays of it.
use Rattle.std.proofs.Common.{ℕ, ◌≡◌, ◌+◌, ◌<◌, ◌≤◌, inl, inr, arith, sym, ap, ◌∙◌, subst}
use Rattle.std.proofs.lemmas.Bool.{cases_lt}
use Rattle.link_script.specs.Script.{Script}
use Rattle.link_table.specs.declared.key.Key.{Key}
use Rattle.link_table.specs.Seated.{SeatState, with_made}
use Rattle.link_lane.specs.declared.lane.Horizon.{Horizon}
use Rattle.link_lane.specs.Following.{LaneState}
use Rattle.link_lane.specs.Pausing.{peer_of, IsAhead, IsStill, IsHeldUp, BeginsBelow, IsBlocked}

-- the same seat, with other progress
pub reseated : {N : Type 0} (old mid new : LaneState N) → mid.seat ≡ with_made old.seat mid.seat.made
    → new.seat ≡ with_made mid.seat new.seat.made → new.seat ≡ with_made old.seat new.seat.made
reseated {N = N} old mid new a b = b ∙ ap (λ (z : SeatState (Key N)). with_made z new.seat.made) a

-- a lane that is held up is blocked
pub blocked_by : {N : Type 0} (between : ℕ → ℕ → ℕ) (polls clock : ℕ) (old mid new : LaneState N) (horizon : Horizon)
    → (mid.seat.made.steps ≡ old.seat.made.steps → mid ≡ old) → IsStill mid new
    → IsHeldUp between polls clock mid new horizon → (peer seen : ℕ) → horizon.peer ≡ peer → horizon.seen ≡ seen
    → IsBlocked between polls clock old new peer seen
blocked_by {N = N} between polls clock old mid new horizon same still held peer seen peer_is seen_is =
    let h = held.horizon_is in
    let end : horizon.end ≡ horizon.seen + between horizon.peer new.seat.player = h.end_is in
    let late : horizon.end ≤ clock = held.late in
    let looked = held.caught.looked in
    let up = held.caught.base_up in
    let base = held.caught.base_is in
    let steps : new.seat.made.steps ≡ mid.seat.made.steps = still.steps_are in
    let seen_clock : (peer_of new horizon.peer).clock ≡ horizon.seen = h.seen_is in
    subst (λ (p : ℕ). IsBlocked between polls clock old new p seen) peer_is
    (subst (λ (s : ℕ). IsBlocked between polls clock old new horizon.peer s) seen_is
    (record {
      below = h.below;
      other = h.other;
      seen_is = h.seen_is;
      late = omega arith;
      polled = omega arith;
      polled_here = λ e.
          subst (λ (z : LaneState N). (peer_of z horizon.peer).looks + polls ≤ (peer_of new horizon.peer).looks)
          (same (sym steps ∙ e)) looked;
      no_earlier = λ e.
          subst (λ (z : LaneState N). (peer_of z horizon.peer).base ≤ horizon.seen) (same (sym steps ∙ e))
          (omega arith);
    }))

-- a lane that was ahead of its peers and is blocked has made a step
pub has_moved : {N : Type 0} (between : ℕ → ℕ → ℕ) (polls clock before : ℕ) (old new : LaneState N) (peer seen : ℕ)
    → IsBlocked between polls clock old new peer seen → new.seat ≡ with_made old.seat new.seat.made
    → old.seat.made.steps ≤ new.seat.made.steps → (new.seat.made.steps ≡ old.seat.made.steps → clock ≡ before)
    → IsAhead between old before → old.seat.made.steps < new.seat.made.steps
has_moved {N = N} between polls clock before old new peer seen b seat grows same ahead =
    elim (cases_lt old.seat.made.steps new.seat.made.steps) [
      | inl more ↦ more
      | inr none ↦
          let steps : new.seat.made.steps ≡ old.seat.made.steps = omega arith in
          let players : new.seat.players ≡ old.seat.players = ap (λ (z : SeatState (Key N)). z.players) seat in
          let player : new.seat.player ≡ old.seat.player = ap (λ (z : SeatState (Key N)). z.player) seat in
          let below : peer < new.seat.players = b.below in
          let a : before < (peer_of old peer).base + between peer old.seat.player
          = ahead peer (omega arith) (λ t. b.other (t ∙ sym player)) in
          let late : seen + between peer old.seat.player ≤ clock
          = subst (λ (i : ℕ). seen + between peer i ≤ clock) player b.late in
          let base : (peer_of old peer).base ≤ seen = b.no_earlier steps in
          let clocks : clock ≡ before = same steps in
          absurd (omega arith)
    ]

-- more steps that began below `until`
pub begins_more : (s : Script) (until i first mid last : ℕ) → BeginsBelow s until i first mid
    → BeginsBelow s until i mid last → BeginsBelow s until i first last
begins_more s until i first mid last here there k from_first less =
    elim (cases_lt k mid) [
      | inl before ↦ here k from_first before
      | inr past ↦ there k past less
    ]
