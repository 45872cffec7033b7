-- The pieces of each file of a run, one after another, are its bytes.
use Rattle.std.proofs.Common.{◌≡◌, ◌≢◌, ℕ, zero, suc, ◌+◌, ◌*◌, ◌<◌, ◌≤◌, ◌∙◌, Bool, true, false, not, nat_eq, nat_lt, min, List, [], ◌∷◌, ◌++◌, length, get_or, refl, sym, ap, subst, arith, append_assoc, if◌then◌else◌}
use Rattle.std.proofs.lemmas.Bool.Decides.{nat_tests}
use Rattle.std.proofs.lemmas.Grind.{flat_map-append}
use Rattle.std.proofs.lemmas.List.{append-nil}
use Rattle.gba_command.specs.LeftFiles.{added}
use Rattle.gba_command.specs.Writing.{Output}
use Rattle.gba_console.specs.Machine.{Machine, forgotten}
use Rattle.gba_console.specs.Segments.{LiveSegments, behind}
use Rattle.gba_joblog.specs.Clash.{output_file}
use Rattle.gba_joblog.specs.Outputs.{at_kind}
use Rattle.gba_joblog.specs.declared.outputs.OutKind.{OutKind}
use Rattle.gba_joblog.specs.declared.outputs.OutKind.TheVariants.{Frames, Samples, Words, State, Save}
use Rattle.gba_joblog.specs.declared.outputs.PerKind.{PerKind}
use Rattle.gba_output.specs.TransferWords.{words_line}
use Rattle.gba_run_files.proofs.Named.{console-other, name-told, added-append, cut-own, is_one_of, kinds-none, kinds-once}
use Rattle.gba_run_files.proofs.Segmented.{next-segment, over-none}
use Rattle.gba_run_files.specs.Names.{names_from, names_of}
use Rattle.gba_run_files.specs.Pieces.{console_pieces, cut_pieces, growing_kinds, lasting_kinds, later_segments, run_pieces, segment_pieces}
use Rattle.gba_session.proofs.Advancing.{segment-many, until-many, whole-joined}
use Rattle.gba_session.proofs.Joining.{joined-get}
use Rattle.gba_session.specs.Files.{bytes_if, grows, output_bytes}
use Rattle.gba_session.specs.Held.{CanRun}
use Rattle.gba_session.specs.Session.{Consoles, advanced, is_over, later_end, segment_cut, segment_cycles, whole_cut}
use Rattle.gba_session.specs.Start.{run_until}
use Rattle.link_order.specs.Cut.{Cut}

-- ---- kinds

growing-own : (out : List ℕ) (player : ℕ) (asks : PerKind Bool) (m : Machine) (kind : OutKind) → player < 10
    → grows kind ≡ true
    → added (output_file out player kind) (console_pieces growing_kinds (names_of out player) asks m)
    ≡ bytes_if asks m kind
unfolding is_one_of
growing-own out player asks m Frames few grow =
    kinds-once out player asks m Frames few [] (Samples ∷ Words ∷ []) refl refl
growing-own out player asks m Samples few grow =
    kinds-once out player asks m Samples few (Frames ∷ []) (Words ∷ []) refl refl
growing-own out player asks m Words few grow =
    kinds-once out player asks m Words few (Frames ∷ Samples ∷ []) [] refl refl
growing-own out player asks m State few grow = absurd cc
growing-own out player asks m Save few grow = absurd cc

growing-none : (out : List ℕ) (player : ℕ) (asks : PerKind Bool) (m : Machine) (kind : OutKind) → player < 10
    → grows kind ≡ false
    → added (output_file out player kind) (console_pieces growing_kinds (names_of out player) asks m) ≡ []
unfolding is_one_of
growing-none out player asks m Frames few last = absurd cc
growing-none out player asks m Samples few last = absurd cc
growing-none out player asks m Words few last = absurd cc
growing-none out player asks m State few last = kinds-none out player asks m State few growing_kinds refl
growing-none out player asks m Save few last = kinds-none out player asks m Save few growing_kinds refl

lasting-own : (out : List ℕ) (player : ℕ) (asks : PerKind Bool) (m : Machine) (kind : OutKind) → player < 10
    → grows kind ≡ false
    → added (output_file out player kind) (console_pieces lasting_kinds (names_of out player) asks m)
    ≡ bytes_if asks m kind
unfolding is_one_of
lasting-own out player asks m Frames few last = absurd cc
lasting-own out player asks m Samples few last = absurd cc
lasting-own out player asks m Words few last = absurd cc
lasting-own out player asks m State few last = kinds-once out player asks m State few [] (Save ∷ []) refl refl
lasting-own out player asks m Save few last = kinds-once out player asks m Save few (State ∷ []) [] refl refl

lasting-none : (out : List ℕ) (player : ℕ) (asks : PerKind Bool) (m : Machine) (kind : OutKind) → player < 10
    → grows kind ≡ true
    → added (output_file out player kind) (console_pieces lasting_kinds (names_of out player) asks m) ≡ []
unfolding is_one_of
lasting-none out player asks m Frames few grow = kinds-none out player asks m Frames few lasting_kinds refl
lasting-none out player asks m Samples few grow = kinds-none out player asks m Samples few lasting_kinds refl
lasting-none out player asks m Words few grow = kinds-none out player asks m Words few lasting_kinds refl
lasting-none out player asks m State few grow = absurd cc
lasting-none out player asks m Save few grow = absurd cc

-- of two parts of a run the bytes of a kind that grows are joined
behind-bytes : (kind : OutKind) → grows kind ≡ true → (first m : Machine)
    → output_bytes kind (behind first m) ≡ output_bytes kind first ++ output_bytes kind m
behind-bytes Frames grow first m = refl
behind-bytes Samples grow first m = refl
behind-bytes Words grow first m = flat_map-append words_line first.board.ended.words m.board.ended.words
behind-bytes State grow first m = absurd cc
behind-bytes Save grow first m = absurd cc

none-made : (kind : OutKind) → grows kind ≡ true → (m : Machine) → output_bytes kind (forgotten m) ≡ []
none-made Frames grow m = refl
none-made Samples grow m = refl
none-made Words grow m = refl
none-made State grow m = absurd cc
none-made Save grow m = absurd cc

-- ---- segments

early : (a b : ℕ) → a < b → nat_lt a b ≡ true
early a b less = grind (arith, nat_tests, less)

left-is : (a b : ℕ) → not (nat_lt a b) ≡ false → a < b
left-is a b left = grind (arith, nat_tests, left)

over-is : (a b : ℕ) → not (nat_lt a b) ≡ true → b ≤ a
over-is a b over = grind (arith, nat_tests, over)

no-pieces : (name : List ℕ) → added name [] ≡ []
unfolding added
no-pieces name = refl

no-segments : (name : List ℕ) (names : List (PerKind (List ℕ))) (s : Consoles)
    → added name (segment_pieces zero names s) ≡ []
unfolding segment_pieces
no-segments name names s = no-pieces name

module _ (law : LiveSegments) (out : List ℕ) (count k : ℕ) (kind : OutKind) (grow : grows kind ≡ true) (few : count ≤ 4)
    (player : k < count) (a : PerKind Bool) (m : Machine) where
  abbrev name : List ℕ
  name = output_file out k kind

  abbrev bytes_in : Cut Machine → List ℕ
  bytes_in cut = output_bytes kind (get_or cut.consoles k m)

  -- what the segments from here on add to a file is what the run makes from here on
  segments-add : (most i : ℕ) (s : Consoles) → CanRun s.start → s.to ≤ s.until
      → min s.until (i * segment_cycles) ≤ s.to → later_segments s < i + most → count ≤ length s.asks
      → length s.start.consoles ≡ length s.asks → at_kind (get_or s.asks k a) kind ≡ true
      → bytes_in (run_until s.to s.start) ++ added name (segment_pieces most (names_from out 0 count) s)
      ≡ bytes_in (whole_cut s)
  segments-add zero i s can within come many all long asked =
      let end : s.to ≡ s.until = omega (arith, within, come, many) in
      ap (λ (bytes : List ℕ). bytes_in (run_until s.to s.start) ++ bytes) (no-segments name (names_from out 0 count) s)
      ∙ append-nil (bytes_in (run_until s.to s.start))
      ∙ ap (λ (n : ℕ). bytes_in (run_until n s.start)) end
  segments-add (suc most) i s can within come many all long asked =
      by (is_over s) refl
      (segments-add most (i + 1) (record s { from = s.to; to = later_end s.until s.to }) can (omega arith)) where
        next : Consoles
        next = record s { from = s.to; to = later_end s.until s.to }

        by : (t : Bool) → is_over s ≡ t
            → (min s.until ((i + 1) * segment_cycles) ≤ later_end s.until s.to → later_segments s < i + 1 + most
            → count ≤ length s.asks → length s.start.consoles ≡ length s.asks → at_kind (get_or s.asks k a) kind ≡ true
            → bytes_in (run_until (later_end s.until s.to) s.start)
            ++ added name
            (segment_pieces most (names_from out 0 count) (record s { from = s.to; to = later_end s.until s.to }))
            ≡ bytes_in (whole_cut s))
            → bytes_in (run_until s.to s.start) ++ added name (segment_pieces (suc most) (names_from out 0 count) s)
            ≡ bytes_in (whole_cut s)
        by true over rest =
            let past : s.until ≤ s.to = over-is s.to s.until over in
            let end : s.to ≡ s.until = omega (arith, within, past) in
            ap (λ (pieces : List Output). bytes_in (run_until s.to s.start) ++ added name pieces)
            (over-none (suc most) (names_from out 0 count) s over)
            ∙ ap (λ (bytes : List ℕ). bytes_in (run_until s.to s.start) ++ bytes) (no-pieces name)
            ∙ append-nil (bytes_in (run_until s.to s.start))
            ∙ ap (λ (n : ℕ). bytes_in (run_until n s.start)) end
        by false left rest =
            let before : s.to < s.until = left-is s.to s.until left in
            let t : Consoles = record s { from = s.to; to = later_end s.until s.to } in
            let names = names_from out 0 count in
            let adv : advanced s ≡ t = rw (early s.to s.until before) refl in
            let here = cut_pieces growing_kinds names s.asks (segment_cut t).consoles in
            let later = segment_pieces most names t in
            let split : segment_pieces (suc most) names s ≡ here ++ later =
            next-segment most names s left
            ∙ ap (λ (x : Consoles). cut_pieces growing_kinds names s.asks (segment_cut x).consoles
            ++ segment_pieces most names x) adv in
            let consoles : length (segment_cut t).consoles ≡ length s.asks = segment-many t ∙ long in
            let piece : added name here ≡ bytes_in (segment_cut t) =
            cut-own out kind growing_kinds 0 count k k s.asks (segment_cut t).consoles a m (omega arith) player
            (omega (arith, few)) (omega (arith, player, all)) (omega (arith, player, all, consoles))
            ∙ growing-own out k (get_or s.asks k a) (get_or (segment_cut t).consoles k m) kind
            (omega (arith, player, few)) grow
            ∙ ap (λ (b : Bool). if b then output_bytes kind (get_or (segment_cut t).consoles k m) else []) asked in
            let joined : bytes_in (run_until t.to s.start)
            ≡ bytes_in (run_until s.to s.start) ++ bytes_in (segment_cut t) =
            ap bytes_in (whole-joined law t can (omega (arith, before)))
            ∙ ap (output_bytes kind) (joined-get (run_until s.to s.start) (segment_cut t) k m m
            (omega (arith, player, all, consoles)) (omega (arith, player, all, until-many s.to s.start, long)))
            ∙ behind-bytes kind grow (get_or (run_until s.to s.start).consoles k m)
            (get_or (segment_cut t).consoles k m) in
            ap (λ (pieces : List Output). bytes_in (run_until s.to s.start) ++ added name pieces) split
            ∙ ap (λ (bytes : List ℕ). bytes_in (run_until s.to s.start) ++ bytes) (added-append name here later)
            ∙ ap (λ (bytes : List ℕ). bytes_in (run_until s.to s.start) ++ (bytes ++ added name later)) piece
            ∙ sym (append_assoc (bytes_in (run_until s.to s.start)) (bytes_in (segment_cut t)) (added name later))
            ∙ ap (λ (bytes : List ℕ). bytes ++ added name later) (sym joined)
            ∙ rest (omega (arith, before, come)) (omega (arith, many)) all long asked

-- consoles that add nothing to a file
cut-none : (name out : List ℕ) (kinds : List OutKind) (count : ℕ)
    → ((k : ℕ) (asks : PerKind Bool) (m : Machine) → k < count
    → added name (console_pieces kinds (names_of out k) asks m) ≡ [])
    → (player left : ℕ) (asks : List (PerKind Bool)) (ms : List Machine) → player + left ≤ count
    → added name (cut_pieces kinds (names_from out player left) asks ms) ≡ []
unfolding cut_pieces names_from
cut-none name out kinds count none player zero asks ms within = no-pieces name
cut-none name out kinds count none player (suc left) [] ms within = no-pieces name
cut-none name out kinds count none player (suc left) (a ∷ asks) [] within = no-pieces name
cut-none name out kinds count none player (suc left) (a ∷ asks) (m ∷ ms) within =
    added-append name (console_pieces kinds (names_of out player) a m)
    (cut_pieces kinds (names_from out (player + 1) left) asks ms)
    ∙ ap (λ (bytes : List ℕ). bytes ++ added name (cut_pieces kinds (names_from out (player + 1) left) asks ms))
    (none player a m (omega (arith, within)))
    ∙ cut-none name out kinds count none (player + 1) left asks ms (omega (arith, within))

-- segments add nothing to a file of another name
segments-other : (name out : List ℕ) (count : ℕ)
    → ((k : ℕ) (asks : PerKind Bool) (m : Machine) → k < count
    → added name (console_pieces growing_kinds (names_of out k) asks m) ≡ [])
    → (most : ℕ) (s : Consoles) → added name (segment_pieces most (names_from out 0 count) s) ≡ []
unfolding segment_pieces
segments-other name out count none zero s = no-pieces name
segments-other name out count none (suc most) s =
    by (is_over s) refl (segments-other name out count none most (advanced s)) where
      by : (t : Bool) → is_over s ≡ t → added name (segment_pieces most (names_from out 0 count) (advanced s)) ≡ []
          → added name (segment_pieces (suc most) (names_from out 0 count) s) ≡ []
      by true over rest =
          ap (added name) (over-none (suc most) (names_from out 0 count) s over) ∙ no-pieces name
      by false left rest =
          let here = cut_pieces growing_kinds (names_from out 0 count) s.asks (segment_cut (advanced s)).consoles in
          ap (added name) (next-segment most (names_from out 0 count) s left)
          ∙ added-append name here (segment_pieces most (names_from out 0 count) (advanced s))
          ∙ ap (λ (bytes : List ℕ). bytes ++ added name (segment_pieces most (names_from out 0 count) (advanced s)))
          (cut-none name out growing_kinds count none 0 count s.asks (segment_cut (advanced s)).consoles (omega arith))
          ∙ rest

-- ---- the pieces of a whole run

module _ (law : LiveSegments) (out : List ℕ) (s : Consoles) (count : ℕ) (few : count ≤ 4) (can : CanRun s.start)
    (within : s.to ≤ s.until) (all : count ≡ length s.asks) (long : length s.start.consoles ≡ length s.asks)
    (reset : (k : ℕ) (m : Machine) → k < count
    → get_or (run_until s.to s.start).consoles k m ≡ forgotten (get_or s.start.consoles k m)) where
  abbrev names : List (PerKind (List ℕ))
  names = names_from out 0 count

  whole-long : length (whole_cut s).consoles ≡ length s.asks
  whole-long = until-many s.until s.start ∙ long

  -- the pieces of an output that is asked for are its bytes
  module _ (k : ℕ) (kind : OutKind) (player : k < count) (a : PerKind Bool) (m : Machine)
      (asked : at_kind (get_or s.asks k a) kind ≡ true) where
    abbrev at_end : List ℕ
    at_end = output_bytes kind (get_or (whole_cut s).consoles k m)

    growing-added : grows kind ≡ true → added (output_file out k kind) (run_pieces names s) ≡ at_end
    growing-added grow =
        let name = output_file out k kind in
        let most = suc (later_segments s) in
        let last = cut_pieces lasting_kinds names s.asks (whole_cut s).consoles in
        let none : output_bytes kind (get_or (run_until s.to s.start).consoles k m) ≡ [] =
        ap (output_bytes kind) (reset k m player) ∙ none-made kind grow (get_or s.start.consoles k m) in
        let grown : added name (segment_pieces most names s) ≡ at_end =
        ap (λ (bytes : List ℕ). bytes ++ added name (segment_pieces most names s)) (sym none)
        ∙ segments-add law out count k kind grow few player a m most 0 s can within (omega arith) (omega arith)
        (omega (arith, all)) long asked in
        let rest : added name last ≡ [] =
        cut-own out kind lasting_kinds 0 count k k s.asks (whole_cut s).consoles a m (omega arith) player
        (omega (arith, few)) (omega (arith, player, all)) (omega (arith, player, all, whole-long))
        ∙ lasting-none out k (get_or s.asks k a) (get_or (whole_cut s).consoles k m) kind
        (omega (arith, player, few)) grow in
        added-append name (segment_pieces most names s) last
        ∙ ap (λ (bytes : List ℕ). bytes ++ added name last) grown
        ∙ ap (λ (bytes : List ℕ). at_end ++ bytes) rest ∙ append-nil at_end

    lasting-added : grows kind ≡ false → added (output_file out k kind) (run_pieces names s) ≡ at_end
    lasting-added last_kind =
        let name = output_file out k kind in
        let most = suc (later_segments s) in
        let last = cut_pieces lasting_kinds names s.asks (whole_cut s).consoles in
        let none : added name (segment_pieces most names s) ≡ [] =
        segments-other name out count (λ j asks x within. console-none j asks x within) most s in
        let rest : added name last ≡ at_end =
        cut-own out kind lasting_kinds 0 count k k s.asks (whole_cut s).consoles a m (omega arith) player
        (omega (arith, few)) (omega (arith, player, all)) (omega (arith, player, all, whole-long))
        ∙ lasting-own out k (get_or s.asks k a) (get_or (whole_cut s).consoles k m) kind (omega (arith, player, few))
        last_kind
        ∙ ap (λ (b : Bool). if b then at_end else []) asked in
        added-append name (segment_pieces most names s) last
        ∙ ap (λ (bytes : List ℕ). bytes ++ added name last) none ∙ rest where
          console-none : (j : ℕ) (asks : PerKind Bool) (x : Machine) → j < count
              → added (output_file out k kind) (console_pieces growing_kinds (names_of out j) asks x) ≡ []
          console-none j asks x within = by (nat_eq j k) refl where
            by : (t : Bool) → nat_eq j k ≡ t
                → added (output_file out k kind) (console_pieces growing_kinds (names_of out j) asks x) ≡ []
            by true same =
                let here : k ≡ j = grind (arith, nat_tests, same) in
                subst (λ (n : ℕ). added (output_file out n kind) (console_pieces growing_kinds (names_of out j) asks x)
                ≡ []) (sym here)
                (growing-none out j asks x kind (omega (arith, within, few)) last_kind)
            by false apart =
                console-other out (output_file out k kind) j asks x growing_kinds (λ one same.
                let told =
                (name-told out j k one kind (omega (arith, within, few)) (omega (arith, player, few)) same).0 in
                let differ : j ≡ k → ⊥ = λ is. grind (arith, nat_tests, apart, is) in absurd (differ told))

    pub output-added : added (output_file out k kind) (run_pieces names s) ≡ at_end
    output-added = by (grows kind) refl where
      by : (t : Bool) → grows kind ≡ t → added (output_file out k kind) (run_pieces names s) ≡ at_end
      by true grow = growing-added grow
      by false last = lasting-added last

  -- none is of a file that is no output
  pub other-added-none : (name : List ℕ)
      → ((player : ℕ) (kind : OutKind) → player < 10 → output_file out player kind ≢ name)
      → added name (run_pieces names s) ≡ []
  other-added-none name other =
      let most = suc (later_segments s) in
      let last = cut_pieces lasting_kinds names s.asks (whole_cut s).consoles in
      let apart : (j : ℕ) (asks : PerKind Bool) (x : Machine) (kinds : List OutKind) → j < count
      → added name (console_pieces kinds (names_of out j) asks x) ≡ [] =
      λ j asks x kinds within. console-other out name j asks x kinds
      (λ one. other j one (omega (arith, within, few))) in
      added-append name (segment_pieces most names s) last
      ∙ ap (λ (bytes : List ℕ). bytes ++ added name last)
      (segments-other name out count (λ j asks x. apart j asks x growing_kinds) most s)
      ∙ cut-none name out lasting_kinds count (λ j asks x. apart j asks x lasting_kinds) 0 count s.asks
      (whole_cut s).consoles (omega arith)
