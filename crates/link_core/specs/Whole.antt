use Rattle.std.specs.Prelude.{ℕ, zero, suc, Bool, true, ◌+◌, ◌==◌, ◌&&◌, ◌||◌, nat_le, nat_lt, List, [], ◌∷◌, slice_index, map}
use Rattle.std.specs.List.{list_all}
use Rattle.link_node.specs.Delays.{hop_of}
use Rattle.link_order.specs.declared.sent.Sent.{Sent}
use Rattle.link_order.specs.Cut.{Cut, count, is_awaited, IsInTime, IsSound}
use Rattle.link_order.specs.NodeKind.{NodeKind}
use Rattle.link_order.specs.Order.{is_before, clock_of, sender_of}
use Rattle.link_core.specs.Kept.{AllLive}

-- A cut from which a run can go on: it is sound and in time, and each of its signals can still be taken.
pub record IsWhole {C : Type 0} (kind : NodeKind C) (cut : Cut C) : Type 0 where
  pub sound : IsSound kind cut
  pub live : AllLive kind cut
  pub in_time : IsInTime kind cut

-- The same as a test, by the delays between consoles, their clocks, the clocks at which their last steps began, and how
-- many they are.

-- whether something holds of each number below another
abbrev pub all_below : (ℕ → Bool) → ℕ → Bool
all_below test zero = true
all_below test (suc i) = test i && all_below test i

-- a last step of at most 512 cycles
abbrev pub is_paced : (ℕ → ℕ) → (ℕ → ℕ) → ℕ → Bool
is_paced clock was i = nat_le (was i) (clock i) && nat_le (clock i) (was i + 512)

-- one console isn't too far ahead of another one
abbrev pub is_near : (ℕ → ℕ → ℕ) → (ℕ → ℕ) → (ℕ → ℕ) → ℕ → ℕ → Bool
is_near between clock was i j =
    i == j || (nat_lt (clock i) (clock j + between j i + 512) && nat_lt (was i) (clock j + between j i))

-- what another console may still send arrives later at the sender
abbrev pub is_allowed : (ℕ → ℕ → ℕ) → (ℕ → ℕ) → Sent → ℕ → Bool
is_allowed between clock one i = i == one.sender || nat_lt one.signal.clock (clock i + between i one.sender)

abbrev pub is_sound_signal : (ℕ → ℕ → ℕ) → (ℕ → ℕ) → ℕ → Sent → Bool
is_sound_signal between clock count one =
    nat_lt one.sender count
    && nat_lt one.signal.clock (clock one.sender)
    && all_below (is_allowed between clock one) count

-- one after another
abbrev pub is_behind : Sent → List Sent → Bool
is_behind last [] = true
is_behind last (one ∷ rest) = is_before clock_of sender_of last one && is_behind one rest

abbrev pub is_ordered : List Sent → Bool
is_ordered [] = true
is_ordered (one ∷ rest) = is_behind one rest

abbrev pub is_whole_by : (ℕ → ℕ → ℕ) → (ℕ → ℕ) → (ℕ → ℕ) → ℕ → List Sent → Bool
is_whole_by between clock was count sent =
    all_below (is_paced clock was) count
    && all_below (λ i. all_below (is_near between clock was i) count) count
    && list_all (is_sound_signal between clock count) sent
    && list_all (is_awaited between was count) sent
    && is_ordered sent

unfoldable pub is_whole : {C : Type 0} → NodeKind C → Cut C → Bool
is_whole kind cut =
    is_whole_by (hop_of cut.delays) (slice_index (map kind.clock cut.consoles))
    (slice_index (map kind.was cut.consoles))
    (count cut) cut.sent
