-- A step keeps a cut sound.
use Rattle.std.specs.Prelude.{List, All, Option, None, Some, IfSome, filter}
use Rattle.std.proofs.Common.{ℕ, ◌≡◌, ◌≢◌, ◌+◌, ◌<◌, ◌≤◌, inl, inr, arith, refl, sym, ap, ◌∙◌, subst}
use Rattle.std.proofs.lemmas.List.Elements.{All-filter}
use Rattle.std.proofs.lemmas.List.Kept.{AllPairs-filter}
use Rattle.link_node.specs.declared.signal.Incoming.{Incoming}
use Rattle.link_node.specs.declared.signal.Signal.{Signal}
use Rattle.link_order.specs.declared.sent.Sent.{Sent}
use Rattle.link_order.specs.NodeKind.{NodeKind, IsLawful}
use Rattle.link_order.specs.Order.{clock_of, sender_of, IsOrdered}
use Rattle.link_order.specs.Cut.{Cut, hop, count, clock_at, was_at, live, is_live, HasDelays, IsSound, IsSoundSignal}
use Rattle.link_order.specs.GlobalOrder.{least, with_signal, step, due_at}
use Rattle.link_order.proofs.Numbers.{same_or_apart, least_is_player, least_is_least}
use Rattle.link_order.proofs.Lists.{all_map}
use Rattle.link_order.proofs.Places.{Apart, Comes, All-place, AllPairs-place}
use Rattle.link_order.proofs.Stepping.{IsConsole, console_at, after_step, is_stepped, put_cases}

pub joined_all : (P : Sent → Type 0) (i : ℕ) (o : Option Signal) (sent : List Sent)
    → IfSome o (λ s. P (record { sender = i; signal = s })) → All P sent → All P (with_signal i o sent)
joined_all P i None sent here rest = rest
joined_all P i (Some s) sent here rest =
    All-place clock_of sender_of P (record { sender = i; signal = s }) sent here rest

joined_ordered : (i clock : ℕ) (o : Option Signal) (sent : List Sent) → IfSome o (λ s. s.clock ≡ clock)
    → All (λ (one : Sent). one.sender ≡ i → one.signal.clock < clock) sent → IsOrdered sent
    → IsOrdered (with_signal i o sent)
joined_ordered i clock None sent bears own ordered = ordered
joined_ordered i clock (Some s) sent bears own ordered =
    let new : Sent = record { sender = i; signal = s } in
    AllPairs-place clock_of sender_of new sent
    (all_map (λ (one : Sent). one.sender ≡ i → one.signal.clock < clock) (Apart clock_of sender_of new) sent
    (λ one h. elim (same_or_apart i one.sender) [
      | inl e ↦ inl (λ t. let less = h (sym e) in absurd (omega (arith, t, bears, less)))
      | inr apart ↦ inr apart
    ]) own)
    ordered

pub some_map : {P Q : Signal → Type 0} (o : Option Signal) → ((s : Signal) → P s → Q s) → IfSome o P → IfSome o Q
some_map None f h = h
some_map (Some s) f h = f s h

-- a step that begins before a peer's present step can be heard, with any signals
pub sound_after_step : {C : Type 0} (kind : NodeKind C) → IsLawful kind
    → (cut : Cut C) (i : ℕ) (x : C) (signals : List Incoming)
    → i < count cut → IsConsole kind cut i x
    → ((j : ℕ) → j < count cut → j ≢ i → clock_at kind cut i < clock_at kind cut j + hop cut j i)
    → IsSound kind cut → IsSound kind (after_step kind cut i x signals)
sound_after_step {C = C} kind law cut i x signals below at ahead sound =
    let s = is_stepped kind law cut i x signals below at in
    let d : Cut C = after_step kind cut i x signals in
    let y : ℕ = kind.clock (kind.next x signals).0 in
    let rises : kind.clock x < y = law.rises x signals in
    let short : y ≤ kind.clock x + 512 = law.short x signals in
    let own = at.clock_is in
    let clock_of_d = put_cases i y (clock_at kind cut) (clock_at kind d) s.clocks in
    let was_of_d = put_cases i (kind.clock x) (was_at kind cut) (was_at kind d) s.wases in
    let later : (k : ℕ) → clock_at kind cut k ≤ clock_at kind d k
    = λ k. elim (clock_of_d k) [
      | inl e ↦ let f = ap (clock_at kind cut) e.0 in omega (arith, e.1, f)
      | inr e ↦ omega (arith, e.1)
    ] in
    let down : (k : ℕ) → k < count d → k < count cut = λ k h. subst (λ (n : ℕ). k < n) s.count_is h in
    let up : (k : ℕ) → k < count cut → k < count d = λ k h. subst (λ (n : ℕ). k < n) (sym s.count_is) h in
    let keep : (one : Sent) → IsSoundSignal kind cut one → IsSoundSignal kind d one
    = λ one h. record {
      from_player = up one.sender h.from_player;
      sent_before = omega (arith, later one.sender, h.sent_before);
      allowed = λ k less apart. omega (arith, later k, h.allowed k (down k less) apart);
    } in
    let new : (t : Signal) → t.clock ≡ kind.clock x → IsSoundSignal kind d (record { sender = i; signal = t })
    = λ t e. record {
      from_player = up i below;
      sent_before = elim (clock_of_d i) [ inl f ↦ omega (arith, e, f.1) | inr f ↦ absurd (f.0 refl) ];
      allowed = λ k less apart. omega (arith, e, later k, ahead k (down k less) apart);
    } in
    record {
      near = λ a b la lb apart. elim (clock_of_d a) [
        | inl e ↦ let f = ahead b (down b lb) (λ t. apart (e.0 ∙ sym t)) in
            let h : clock_at kind cut b + hop cut b i ≡ clock_at kind cut b + hop cut b a =
            ap (λ (m : ℕ). clock_at kind cut b + hop cut b m) (sym e.0) in
            omega (arith, e.1, f, later b)
        | inr e ↦ omega (arith, e.1, later b, sound.near a b (down a la) (down b lb) apart)
      ];
      begun = λ k less. elim (was_of_d k) [
        | inl e ↦ elim (clock_of_d k) [ inl f ↦ omega (arith, e.1, f.1) | inr f ↦ absurd (f.0 e.0) ]
        | inr e ↦ omega (arith, e.1, later k, sound.begun k (down k less))
      ];
      short = λ k less. elim (was_of_d k) [
        | inl e ↦ elim (clock_of_d k) [ inl f ↦ omega (arith, e.1, f.1) | inr f ↦ absurd (f.0 e.0) ]
        | inr e ↦ elim (clock_of_d k) [
          | inl f ↦ absurd (e.0 f.0)
          | inr f ↦
              omega (arith, e.1, f.1, sound.short k (down k less))
        ]
      ];
      signals = joined_all (IsSoundSignal kind d) i (kind.next x signals).1 cut.sent
          (some_map (kind.next x signals).1 new (law.bears x signals))
          (all_map (IsSoundSignal kind cut) (IsSoundSignal kind d) cut.sent keep sound.signals);
      ordered = joined_ordered i (kind.clock x) (kind.next x signals).1 cut.sent (law.bears x signals)
          (all_map (IsSoundSignal kind cut) (λ (one : Sent). one.sender ≡ i → one.signal.clock < kind.clock x) cut.sent
          (λ one h e. let f = ap (clock_at kind cut) e in omega (arith, h.sent_before, f, own)) sound.signals)
          sound.ordered;
    }

-- a cut with its live signals alone is sound too
pub sound_live : {C : Type 0} (kind : NodeKind C) (cut : Cut C) → IsSound kind cut → IsSound kind (live kind cut)
sound_live kind cut sound = record {
  near = sound.near;
  begun = sound.begun;
  short = sound.short;
  signals = all_map (IsSoundSignal kind cut) (IsSoundSignal kind (live kind cut)) (filter (is_live kind cut) cut.sent)
      (λ one h. record { from_player = h.from_player; sent_before = h.sent_before; allowed = h.allowed })
      (All-filter (is_live kind cut) (IsSoundSignal kind cut) cut.sent sound.signals);
  ordered = AllPairs-filter (Comes clock_of sender_of) (is_live kind cut) cut.sent sound.ordered;
}

-- the least console may step
pub least_ahead : {C : Type 0} (kind : NodeKind C) (cut : Cut C) → 0 < count cut → HasDelays cut
    → (j : ℕ) → j < count cut → j ≢ least kind cut
    → clock_at kind cut (least kind cut) < clock_at kind cut j + hop cut j (least kind cut)
least_ahead kind cut some later j below apart =
    let own = least_is_player (clock_at kind cut) (count cut) some in
    omega (
      arith,
      least_is_least (clock_at kind cut) (count cut) j below,
      later j (least kind cut) below own apart,
    )

pub sound_step : {C : Type 0} (kind : NodeKind C) → IsLawful kind → (cut : Cut C) → 0 < count cut → HasDelays cut
    → IsSound kind cut → IsSound kind (step kind cut)
sound_step kind law cut some later sound =
    let i : ℕ = least kind cut in
    let below = least_is_player (clock_at kind cut) (count cut) some in
    let at = console_at kind cut i below in
    let s = is_stepped kind law cut i at.0 (due_at kind cut i) below at.1 in
    subst (IsSound kind) (sym s.cut_is)
    (sound_after_step kind law cut i at.0 (due_at kind cut i) below at.1 (least_ahead kind cut some later) sound)
