use Rattle.std.specs.Prelude.{ℕ, ◌≡◌, ◌≢◌, ◌+◌, ◌<◌, ◌≤◌, ◌^◌, ◌==◌, if◌then◌else◌, List, [], ◌∷◌, Some, length, map}
use Rattle.std.specs.Prelude.{slice_get, slice_set, option_to_list, IsSome, None}
use Rattle.std.proofs.Common.{suc}
use Rattle.atomic_table.specs.Table.{Me, Step}
use Rattle.link_node.specs.declared.signal.Signal.{Signal}
use Rattle.link_node.specs.Packing.{packed_head, packed_words}
use Rattle.link_order.specs.Way.{Move}
use Rattle.link_script.specs.Script.{Script, now, sent, told}
use Rattle.link_rule.specs.declared.view.Peer.{Peer}
use Rattle.link_rule.specs.declared.view.Progress.{Progress}
use Rattle.link_rule.specs.declared.view.View.{View}
use Rattle.link_rule.specs.Words.{clock_place, ring_place, clock_word}
use Rattle.link_rule.specs.Rule.{peer_at, seat_of, IsPlaced, KnowsOf}

-- this project's profile: what each step on a word of the table tells the seat that makes it

-- a player with something else known of player j
abbrev pub with_peer : Progress → ℕ → Peer → Progress
with_peer r j p = record { steps = r.steps; sent = r.sent; written = r.written; peers = slice_set r.peers j p }

-- a peer after a look that saw this clock and count: where nothing is left to fetch, all is known to that clock
abbrev pub looked : Peer → ℕ → ℕ → Peer
looked p clock count = record {
  clock = clock;
  count = count;
  taken = p.taken;
  base = if p.taken == count then clock else p.base;
  looks = p.looks + 1;
}

-- a peer of whom one more signal was fetched: with the last one counted, all is known to the clock seen
abbrev pub fetched : Peer → Peer
fetched p = record {
  clock = p.clock;
  count = p.count;
  taken = p.taken + 1;
  base = if p.taken + 1 == p.count then p.clock else p.base;
  looks = p.looks;
}

-- a player with so many words of its next signal written
abbrev pub with_written : Progress → ℕ → Progress
with_written r written = record { steps = r.steps; sent = r.sent; written = written; peers = r.peers }

-- a peer at which nobody has looked since the player's last step
abbrev pub unlooked : Peer → Peer
unlooked p = record { clock = p.clock; count = p.count; taken = p.taken; base = p.base; looks = 0 }

-- a player after so many silent steps and one more, which sent so many signals
abbrev pub stepped_on : Progress → ℕ → ℕ → Progress
stepped_on r silent sends = record {
  steps = suc (r.steps + silent);
  sent = r.sent + sends;
  written = 0;
  peers = map unlooked r.peers;
}

-- what a look of player i at player j tells: clock and count of j after some number of its steps, neither below what i
-- had seen; few of these signals aren't fetched, and all of them arrive before i gets past them
pub record Looks (s : Script) (i j : ℕ) (old : Progress) (clock count : ℕ) (new : Progress) : Type 0 where
  pub at : ℕ
  pub clock_is : clock ≡ now s j at
  pub count_is : count ≡ sent s j at
  pub new_is : new ≡ with_peer old j (looked (peer_at old.peers j) clock count)
  pub no_earlier : (peer_at old.peers j).clock ≤ clock
  pub no_fewer : (peer_at old.peers j).count ≤ count
  pub later : (peer_at old.peers j).base ≤ clock
  pub got : (peer_at old.peers j).taken ≤ count
  pub few : count ≤ (peer_at old.peers j).taken + s.hop i j + s.hop j i + 511
  pub unread : count < (peer_at old.peers j).taken + 4096
  pub soon : (n : ℕ) (signal : Signal) → slice_get (told s j) n ≡ Some signal → n < count
      → signal.clock < now s i old.steps + s.hop i j
  pub small_clock : clock < 2 ^ 40
  pub small_count : count < 2 ^ 40

-- the same by the word that was found
pub record LooksAt (s : Script) (i j : ℕ) (old : Progress) (found : ℕ) (new : Progress) : Type 0 where
  pub clock : ℕ
  pub count : ℕ
  pub found_is : found ≡ clock_word clock count
  pub looks : Looks s i j old clock count new

-- the first word of the signal that comes next, and its second word, with which it is fetched
pub record ReadsHead (s : Script) (j : ℕ) (old : Progress) (found : ℕ) : Type 0 where
  pub signal : Signal
  pub stands : slice_get (told s j) (peer_at old.peers j).taken ≡ Some signal
  pub found_is : found ≡ packed_head signal

pub record ReadsBody (s : Script) (j : ℕ) (old : Progress) (found : ℕ) (new : Progress) : Type 0 where
  pub signal : Signal
  pub stands : slice_get (told s j) (peer_at old.peers j).taken ≡ Some signal
  pub found_is : found ≡ packed_words signal
  pub new_is : new ≡ with_peer old j (fetched (peer_at old.peers j))

-- what player i needs to make its step k: its clock is below each peer's `base` and the delay from there
abbrev pub IsAllowed : Script → ℕ → ℕ → Progress → Type 0
IsAllowed s i k r = (j : ℕ) → j < s.players → j ≢ i → now s i k < (peer_at r.peers j).base + s.hop j i

-- what a publish needs: this is the clock after one of the steps that come next, of which those before it send nothing;
-- its signal is written where it has one; and it is allowed, and so are those before it, which begin at lower clocks
pub record MayPublish (s : Script) (i : ℕ) (old : Progress) (clock : ℕ) : Type 0 where
  pub silent : ℕ
  pub move : Move
  pub stands : slice_get (s.line i).moves (old.steps + silent) ≡ Some move
  pub quiet : sent s i (old.steps + silent) ≡ sent s i old.steps
  pub clock_is : clock ≡ move.clock
  pub written : IsSome move.tells → old.written ≡ 2
  pub unwritten : move.tells ≡ None → old.written ≡ 0
  pub allowed : IsAllowed s i (old.steps + silent) old

-- player i has made these steps
pub record Publishes (s : Script) (i : ℕ) (old : Progress) (clock : ℕ) (new : Progress) : Type 0 where
  pub made : MayPublish s i old clock
  pub new_is : new ≡ stepped_on old made.silent (length (option_to_list made.move.tells))

-- the same by the word that was stored
pub record PublishesBy (s : Script) (i : ℕ) (old : Progress) (word : ℕ) (new : Progress) : Type 0 where
  pub clock : ℕ
  pub word_is : word ≡ clock_word clock new.sent
  pub publishes : Publishes s i old clock new

-- what a seat of all players knows once it was joined: each one's place in the trace, and what each knows of each other
pub record Met (s : Script) (records : List Progress) : Type 0 where
  pub count_is : length records ≡ s.players
  pub placed : (i : ℕ) (r : Progress) → slice_get records i ≡ Some r → IsPlaced s i r
  pub knows : (i j : ℕ) (r o : Progress) → slice_get records i ≡ Some r → slice_get records j ≡ Some o → i ≢ j
      → KnowsOf s i j r o

-- what such a seat reads: exactly what player j has shown
pub record Rests (s : Script) (j : ℕ) (o : Progress) (word found : ℕ) : Type 0 where
  pub clock : word ≡ clock_place j → found ≡ clock_word (now s j o.steps) o.sent
  pub head : (n : ℕ) (signal : Signal) → slice_get (told s j) n ≡ Some signal → n < o.sent → o.sent < n + 4096
      → word ≡ ring_place j n → found ≡ packed_head signal
  pub body : (n : ℕ) (signal : Signal) → slice_get (told s j) n ≡ Some signal → n < o.sent → o.sent < n + 4096
      → word ≡ ring_place j n + 1 → found ≡ packed_words signal

-- a seat of one player becomes one of the same player, of which something is told
abbrev pub Becomes : {S K : Type 0} → Me S (View K) → Me S (View K) → K → ℕ → (Progress → Type 0) → Type 0
Becomes before after key i tells = (new : Progress) × (after ≡ (seat_of key i new, before.1)) × tells new

-- storing a word of the next signal
abbrev pub puts : {S K : Type 0} → Step S → Me S (View K) → ℕ → Me S (View K) → Type 0
puts {K = K} step before found after =
    (key : K) (i : ℕ) (old : Progress) → before.0 ≡ seat_of key i old
    → Becomes before after key i (λ new. new ≡ with_written old (suc old.written))

module _ {S K : Type 0} (text : K → Script) where
  -- loading a clock word
  abbrev pub looks : Step S → Me S (View K) → ℕ → Me S (View K) → Type 0
  looks step before found after =
      (key : K) (i j : ℕ) (old : Progress) → before.0 ≡ seat_of key i old → step.word ≡ clock_place j
      → j < (text key).players → j ≢ i → Becomes before after key i (LooksAt (text key) i j old found)

  -- loading the two words of the first signal that isn't fetched
  abbrev pub reads_head : Step S → Me S (View K) → ℕ → Me S (View K) → Type 0
  reads_head step before found after =
      (after ≡ before)
      × ((key : K) (i j : ℕ) (old : Progress) → before.0 ≡ seat_of key i old
      → step.word ≡ ring_place j (peer_at old.peers j).taken → j < (text key).players → j ≢ i
      → (peer_at old.peers j).taken < (peer_at old.peers j).count → ReadsHead (text key) j old found)

  abbrev pub reads_body : Step S → Me S (View K) → ℕ → Me S (View K) → Type 0
  reads_body step before found after =
      (key : K) (i j : ℕ) (old : Progress) → before.0 ≡ seat_of key i old
      → step.word ≡ ring_place j (peer_at old.peers j).taken + 1 → j < (text key).players → j ≢ i
      → (peer_at old.peers j).taken < (peer_at old.peers j).count
      → Becomes before after key i (ReadsBody (text key) j old found)

  -- storing the clock word
  abbrev pub publishes : Step S → Me S (View K) → ℕ → Me S (View K) → Type 0
  publishes step before found after =
      (key : K) (i : ℕ) (old : Progress) → before.0 ≡ seat_of key i old
      → Becomes before after key i (PublishesBy (text key) i old found)

  -- loading any word, by a seat of all players
  abbrev pub rests : Step S → Me S (View K) → ℕ → Me S (View K) → Type 0
  rests step before found after =
      (after ≡ before)
      × ((key : K) → before.0.key ≡ key ∷ [] → before.0.first ≡ 0 → length before.0.records ≡ (text key).players
      → Met (text key) before.0.records)
      × ((key : K) (j : ℕ) (o : Progress) → before.0.key ≡ key ∷ [] → before.0.first ≡ 0
      → slice_get before.0.records j ≡ Some o → Rests (text key) j o step.word found)
