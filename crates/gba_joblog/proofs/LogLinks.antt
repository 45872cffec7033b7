-- The lines of a log that say the delays of its cable.
use Rattle.std.proofs.Common.{◌≡◌, ℕ, zero, suc, ◌+◌, ◌<◌, ◌≤◌, Bool, true, false, cond, not, ◌&&◌, ◌==◌, nat_lt, List, [], ◌∷◌, ◌++◌, Some, None, Ok, refl, lit≤, arith}
use Rattle.std.specs.Prelude.{codes, decimal, is_some}
use Rattle.std.specs.List.{flat_map}
use Rattle.std.proofs.lemmas.Bool.Decides.{nat_tests}
use Rattle.std.proofs.lemmas.List.{append-nil, append_assoc, length-append}
use Rattle.gba_text.proofs.Spans.{first_of_all, rest_of_all}
use Rattle.link_node.specs.Delays.{hop_of, AreDelays}
use Rattle.link_node.specs.declared.delays.Delays.{Delays}
use Rattle.gba_joblog.specs.Cable.{all_pairs, is_joined, link_for, pair_of, players_for}
use Rattle.gba_joblog.specs.Language.{words_say}
use Rattle.gba_joblog.specs.Log.{line_of, link_text, links_text}
use Rattle.gba_joblog.specs.Operands.{pair_at}
use Rattle.gba_joblog.specs.Statements.{Link, arguments, keyword_of, plus_statement, refusal_at}
use Rattle.gba_joblog.specs.declared.cable.Link.{Link as CableLink}
use Rattle.gba_joblog.specs.declared.cable.Pair.{Pair}
use Rattle.gba_joblog.specs.declared.draft.JobVersion.TheVariants.{Two}
use Rattle.gba_joblog.proofs.Cables.{link_in, links_in}
use Rattle.gba_joblog.proofs.LogLines.{Reads, Top, head, line-reads, reads-nothing, reads-then}
use Rattle.gba_joblog.proofs.Spelling.{IsLine, are_more, are_none}
use Rattle.gba_joblog.proofs.SpelledValues.{IsWord-decimal, decimal-short, number-again}

-- a log after so many links
abbrev pub linked : ℕ → List CableLink → Top
linked cycles links = record { version = Two; cycles = cycles; delay = None; links = links }

-- two players of four, and the delay between them
record IsPair (s r delay : ℕ) : Type 0 where
  from : s ≤ 3
  to : r ≤ 3
  apart : (s == r) ≡ false
  some : 1 ≤ delay
  few : delay ≤ 1024

abbrev link_of : ℕ → ℕ → ℕ → CableLink
link_of s r delay = record { pair = pair_of s r; delay = delay }

link-line : (s r delay : ℕ) → IsPair s r delay → IsLine (codes "link") (decimal s ∷ decimal r ∷ decimal delay ∷ [])
link-line s r delay is = record {
  keyword = record { some = omega arith; bytes = refl };
  words = are_more (decimal s) (decimal r ∷ decimal delay ∷ []) (IsWord-decimal s (omega (arith, is.from)))
      (are_more (decimal r) (decimal delay ∷ []) (IsWord-decimal r (omega (arith, is.to)))
      (are_more (decimal delay) [] (IsWord-decimal delay (omega (arith, is.few))) are_none));
  plain = refl;
  short = omega (
    arith,
    length-append (decimal s) (32 ∷ (decimal r ++ (32 ∷ (decimal delay ++ [])))),
    length-append (decimal r) (32 ∷ (decimal delay ++ [])),
    length-append (decimal delay) [],
    decimal-short s (omega (arith, is.from)),
    decimal-short r (omega (arith, is.to)),
    decimal-short delay (omega (arith, is.few)),
  );
}

link-says : (t : ℕ) (before : List CableLink) (s r delay : ℕ) → IsPair s r delay
    → is_some (link_for (pair_of s r) before) ≡ false
    → words_say (head (linked t before)) (codes "link" ∷ decimal s ∷ decimal r ∷ decimal delay ∷ [])
    ≡ Ok (Some (Link (link_of s r delay)))
unfolding keyword_of refusal_at arguments pair_at
link-says t before s r delay is free =
    let a = number-again 0 3 s (decimal r ∷ decimal delay ∷ []) (omega arith) is.from (omega (arith, is.from)) in
    let b = number-again 0 3 r (decimal delay ∷ []) (omega arith) is.to (omega (arith, is.to)) in
    let c = number-again 1 1024 delay [] is.some is.few (omega (arith, is.few)) in
    rw (a, b, is.apart, free, c) refl

link-plus : (n t : ℕ) (before : List CableLink) (link : CableLink)
    → plus_statement n (Link link) (head (linked t before)) ≡ head (linked t (before ++ link ∷ []))
unfolding plus_statement
link-plus n t before link = refl

joined-pair : (players : ℕ) (delays : Delays) (pair : Pair) → players ≤ 4 → AreDelays delays
    → is_joined players pair ≡ true → IsPair pair.sender pair.receiver (hop_of delays pair.sender pair.receiver)
joined-pair players delays pair few are joined =
    let from = nat_lt pair.sender players in
    let to = nat_lt pair.receiver players in
    let front = first_of_all (from && to) (not (pair.sender == pair.receiver)) joined in
    let apart = rest_of_all (from && to) (not (pair.sender == pair.receiver)) joined in
    let low : pair.sender < 4 = below pair.sender (first_of_all from to front) in
    let high : pair.receiver < 4 = below pair.receiver (rest_of_all from to front) in
    let range = are pair.sender pair.receiver low high in
    record {
      from = omega (arith, low);
      to = omega (arith, high);
      apart = other (pair.sender == pair.receiver) apart;
      some = omega (arith, range.0);
      few = range.1;
    } where
      below : (n : ℕ) → nat_lt n players ≡ true → n < 4
      below n lt = grind (arith, nat_tests)

      other : (b : Bool) → not b ≡ true → b ≡ false
      other true h = absurd cc
      other false h = refl

-- the line of one pair, where the cable joins it
record LinkReads (n t : ℕ) (before : List CableLink) (text : List ℕ) (links : List CableLink) : Type 0 where
  after : ℕ
  reads : Reads n (head (linked t before)) text after (head (linked t (before ++ links)))

link-reads : (n t : ℕ) (before : List CableLink) (players : ℕ) (delays : Delays) (pair : Pair) → players ≤ 4
    → AreDelays delays → is_some (link_for pair before) ≡ false
    → LinkReads n t before (link_text players delays pair) (link_in players delays pair)
link-reads n t before players delays pair few are free = by_test (is_joined players pair) refl where
  delay : ℕ
  delay = hop_of delays pair.sender pair.receiver

  link : CableLink
  link = link_of pair.sender pair.receiver delay

  by_test : (b : Bool) → is_joined players pair ≡ b
      → LinkReads n t before
      (cond b (line_of (codes "link") (decimal pair.sender ∷ decimal pair.receiver ∷ decimal delay ∷ [])) [])
      (cond b (link ∷ []) [])
  by_test true joined =
      let is = joined-pair players delays pair few are joined in
      let line =
      line-reads n (head (linked t before)) (codes "link")
      (decimal pair.sender ∷ decimal pair.receiver ∷ decimal delay ∷ [])
      (Link link) (link-line pair.sender pair.receiver delay is)
      (link-says t before pair.sender pair.receiver delay is free) in
      record { after = n + 1; reads = rw (link-plus (n + 1) t before link) at line }
  by_test false joined =
      record { after = n; reads = rw (append-nil before) (reads-nothing n (head (linked t before))) }

-- none of these pairs has a link when its turn comes
abbrev pub are_free : ℕ → Delays → List CableLink → List Pair → Bool
are_free players delays before [] = true
are_free players delays before (pair ∷ pairs) =
    not (is_some (link_for pair before)) && are_free players delays (before ++ link_in players delays pair) pairs

-- the lines of these pairs
pub record LinksRead (n t : ℕ) (before : List CableLink) (players : ℕ) (delays : Delays)
    (pairs : List Pair) : Type 0 where
  pub after : ℕ
  pub reads : Reads n (head (linked t before)) (flat_map (link_text players delays) pairs) after
      (head (linked t (before ++ links_in players delays pairs)))

unlinked : (b : Bool) → not b ≡ true → b ≡ false
unlinked true h = absurd cc
unlinked false h = refl

links-read : (n t : ℕ) (before : List CableLink) (players : ℕ) (delays : Delays) (pairs : List Pair) → players ≤ 4
    → AreDelays delays → are_free players delays before pairs ≡ true → LinksRead n t before players delays pairs
links-read n t before players delays [] few are free =
    record { after = n; reads = rw (append-nil before) (reads-nothing n (head (linked t before))) }
links-read n t before players delays (pair ∷ pairs) few are free =
    let now = not (is_some (link_for pair before)) in
    let later = are_free players delays (before ++ link_in players delays pair) pairs in
    let alone = unlinked (is_some (link_for pair before)) (first_of_all now later free) in
    let line = link-reads n t before players delays pair few are alone in
    let rest = links-read line.after t (before ++ link_in players delays pair) players delays pairs few are
    (rest_of_all now later free) in
    let joined = append_assoc before (link_in players delays pair) (links_in players delays pairs) in
    record {
      after = rest.after;
      reads = reads-then _ _ _ _ _ _ (link_text players delays pair) _ line.reads (rw joined at rest.reads);
    }

all-free : (n : ℕ) (delays : Delays) → 1 ≤ n → n ≤ 4 → are_free (players_for n) delays [] all_pairs ≡ true
all-free zero delays some few = absurd (omega (arith, some))
all-free (suc zero) delays some few = refl
all-free (suc (suc zero)) delays some few = refl
all-free (suc (suc (suc zero))) delays some few = refl
all-free (suc (suc (suc (suc zero)))) delays some few = refl
all-free (suc (suc (suc (suc (suc n))))) delays some few = absurd (omega (arith, few))

few-players : (n : ℕ) → n ≤ 4 → players_for n ≤ 4
few-players zero few = lit≤ tt
few-players (suc zero) few = lit≤ tt
few-players (suc (suc zero)) few = lit≤ tt
few-players (suc (suc (suc zero))) few = lit≤ tt
few-players (suc (suc (suc (suc zero)))) few = lit≤ tt
few-players (suc (suc (suc (suc (suc n))))) few = absurd (omega (arith, few))

-- the lines of a log's cable
pub record CableRead (m t players : ℕ) (delays : Delays) : Type 0 where
  pub after : ℕ
  pub reads : Reads m (head (linked t [])) (links_text players delays) after
      (head (linked t (links_in players delays all_pairs)))

pub cable-read : (m t n : ℕ) (delays : Delays) → 1 ≤ n → n ≤ 4 → AreDelays delays → CableRead m t (players_for n) delays
unfolding links_text
cable-read m t n delays some few are =
    let all = links-read m t [] (players_for n) delays all_pairs (few-players n few) are (all-free n delays some few) in
    record { after = all.after; reads = all.reads }
