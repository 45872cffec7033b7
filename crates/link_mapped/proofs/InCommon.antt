-- What alike cuts have in common.
use Rattle.std.specs.Prelude.{List, map, All, filter, slice_index}
use Rattle.std.proofs.Common.{ℕ, ◌≡◌, ◌≢◌, ◌+◌, ◌<◌, ◌≤◌, ◌∙◌, ap, subst}
use Rattle.link_order.specs.declared.sent.Sent.{Sent}
use Rattle.link_order.specs.NodeKind.{NodeKind}
use Rattle.link_order.specs.Order.{IsOrdered, from}
use Rattle.link_order.specs.Due.{due}
use Rattle.link_node.specs.declared.delays.Delays.{Delays}
use Rattle.link_node.specs.Delays.{hop_of}
use Rattle.link_order.specs.Cut.{Cut, count, is_awaited, is_live, live, IsInTime, IsSound, IsSoundSignal}
use Rattle.link_order.specs.GlobalOrder.{cycles_left, cycles_left_below, due_at, least, least_below}
use Rattle.link_order.proofs.Lists.{all_map}
use Rattle.link_mapped.specs.Law.{IsAlike}
use Rattle.link_mapped.specs.Mapped.{KeepsClocks, each_mapped, mapped}
use Rattle.link_mapped.proofs.Matching.{Matched, each-same, length-same, map-same, matched}

pub record Alike {C : Type 0} (f g : ℕ → C → C) (cut other : Cut C) : Type 0 where
  pub consoles : Matched f g cut.consoles other.consoles
  pub delays : cut.delays ≡ other.delays
  pub sent : cut.sent ≡ other.sent

pub alike-of : {C : Type 0} (f g : ℕ → C → C) (cut other : Cut C) → mapped f cut ≡ mapped g other → Alike f g cut other
alike-of {C = C} f g cut other e = record {
  consoles = matched f g cut.consoles other.consoles (ap (λ (c : Cut C). c.consoles) e);
  delays = ap (λ (c : Cut C). c.delays) e;
  sent = ap (λ (c : Cut C). c.sent) e;
}

with_parts : {C : Type 0} → List C → Delays → List Sent → Cut C
with_parts consoles delays sent = record { consoles = consoles; delays = delays; sent = sent }

pub mapped-same : {C : Type 0} (f g : ℕ → C → C) (cut other : Cut C) → Alike f g cut other
    → mapped f cut ≡ mapped g other
unfolding with_parts
mapped-same {C = C} f g cut other alike =
    ap (λ (xs : List C). with_parts xs cut.delays cut.sent) (each-same f g cut.consoles other.consoles alike.consoles)
    ∙ ap (λ (d : Delays). with_parts (each_mapped g other.consoles) d cut.sent) alike.delays
    ∙ ap (λ (s : List Sent). with_parts (each_mapped g other.consoles) other.delays s) alike.sent

-- all that the order of a cut's steps looks at
pub record Sight : Type 0 where
  pub delays : Delays
  pub clocks : List ℕ
  pub wases : List ℕ
  pub many : ℕ
  pub sent : List Sent

abbrev pub sight : {C : Type 0} → NodeKind C → Cut C → Sight
sight kind cut = record {
  delays = cut.delays;
  clocks = map kind.clock cut.consoles;
  wases = map kind.was cut.consoles;
  many = count cut;
  sent = cut.sent;
}

sight_of : Delays → List ℕ → List ℕ → ℕ → List Sent → Sight
sight_of delays clocks wases many sent =
    record { delays = delays; clocks = clocks; wases = wases; many = many; sent = sent }

module _ {C : Type 0} (kind : NodeKind C) (f g : ℕ → C → C) (clocks : KeepsClocks kind f g) (cut other : Cut C)
    (alike : Alike f g cut other) where
  pub sight-same : sight kind cut ≡ sight kind other
  unfolding sight_of
  sight-same =
      ap (λ (d : Delays). sight_of d (map kind.clock cut.consoles) (map kind.was cut.consoles) (count cut) cut.sent)
      alike.delays
      ∙ ap (λ (ns : List ℕ). sight_of other.delays ns (map kind.was cut.consoles) (count cut) cut.sent)
      (map-same kind.clock f g cut.consoles other.consoles clocks.clock alike.consoles)
      ∙ ap (λ (ns : List ℕ). sight_of other.delays (map kind.clock other.consoles) ns (count cut) cut.sent)
      (map-same kind.was f g cut.consoles other.consoles clocks.was alike.consoles)
      ∙ ap (λ (n : ℕ). sight_of other.delays (map kind.clock other.consoles) (map kind.was other.consoles) n cut.sent)
      (length-same f g cut.consoles other.consoles alike.consoles)
      ∙ ap (λ (s : List Sent). sight_of other.delays (map kind.clock other.consoles) (map kind.was other.consoles)
      (count other) s) alike.sent

  pub least-same : least kind cut ≡ least kind other
  least-same = ap (λ (v : Sight). least_below (slice_index v.clocks) v.many) sight-same

  pub left-same : (until : ℕ) → cycles_left kind cut until ≡ cycles_left kind other until
  left-same until = ap (λ (v : Sight). cycles_left_below (slice_index v.clocks) until v.many) sight-same

  pub due-same : (i : ℕ) → due_at kind cut i ≡ due_at kind other i
  due-same i =
      ap (λ (v : Sight). due (hop_of v.delays) (λ j. from j v.sent) i (slice_index v.wases i)
      (slice_index v.clocks i) v.many)
      sight-same

  pub awaited-same : (one : Sent) → is_live kind cut one ≡ is_live kind other one
  awaited-same one =
      ap (λ (v : Sight). is_awaited (hop_of v.delays) (slice_index v.wases) v.many one) sight-same

  pub live-alike : Alike f g (live kind cut) (live kind other)
  live-alike = record {
    consoles = alike.consoles;
    delays = alike.delays;
    sent =
        ap (λ (v : Sight). filter (λ one. is_awaited (hop_of v.delays) (slice_index v.wases) v.many one) v.sent)
        sight-same;
  }

  signal-same : (one : Sent) → IsSoundSignal kind cut one → IsSoundSignal kind other one
  signal-same one s = record {
    from_player = subst (λ (v : Sight). one.sender < v.many) sight-same s.from_player;
    sent_before =
        subst (λ (v : Sight). one.signal.clock < slice_index v.clocks one.sender) sight-same s.sent_before;
    allowed =
        subst (λ (v : Sight). (i : ℕ) → i < v.many → i ≢ one.sender
        → one.signal.clock < slice_index v.clocks i + hop_of v.delays i one.sender) sight-same s.allowed;
  }

  sound-same : IsSound kind cut → IsSound kind other
  sound-same sound = record {
    near =
        subst (λ (v : Sight). (i j : ℕ) → i < v.many → j < v.many → i ≢ j
        → slice_index v.clocks i < slice_index v.clocks j + hop_of v.delays j i + 512) sight-same sound.near;
    begun =
        subst (λ (v : Sight). (i : ℕ) → i < v.many → slice_index v.wases i ≤ slice_index v.clocks i) sight-same
        sound.begun;
    short =
        subst (λ (v : Sight). (i : ℕ) → i < v.many → slice_index v.clocks i ≤ slice_index v.wases i + 512) sight-same
        sound.short;
    signals =
        subst (λ (v : Sight). All (IsSoundSignal kind other) v.sent) sight-same
        (all_map (IsSoundSignal kind cut) (IsSoundSignal kind other) cut.sent signal-same sound.signals);
    ordered = subst (λ (v : Sight). IsOrdered v.sent) sight-same sound.ordered;
  }

  in-time-same : IsInTime kind cut → IsInTime kind other
  in-time-same in_time =
      subst (λ (v : Sight). (i j : ℕ) → i < v.many → j < v.many → i ≢ j
      → slice_index v.wases i < slice_index v.clocks j + hop_of v.delays j i) sight-same in_time

  pub is-alike : IsAlike kind f g cut other
  is-alike = record {
    same_count = ap (λ (v : Sight). v.many) sight-same;
    same_awaited = awaited-same;
    same_live = mapped-same f g (live kind cut) (live kind other) live-alike;
    sound = sound-same;
    in_time = in-time-same;
  }
