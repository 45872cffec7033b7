-- What a serial unit keeps.
use Rattle.std.proofs.Common.{◌≡◌, ◌≢◌, ℕ, ◌^◌, ◌<◌, ◌≤◌, ◌/◌, ◌%◌, ◌==◌, nat_le, nat_lt, Bool, true, false, not, ◌&&◌, ◌||◌, List, [], ◌∷◌, length, get_or, set, refl, ap, subst, sym, ◌∙◌, ⊎_elim, arith, mod-eq_of_lt, min, max, if◌then◌else◌}
use Rattle.std.specs.Prelude.{IfSome, Option, None, Some, is_some, bit_and, bit_or}
use Rattle.std.specs.Int.{bit_at}
use lib.Bits.{or_comm}
use Rattle.std.proofs.lemmas.Bool.{and_parts, cases_eq, cases_lt, false≢true}
use Rattle.std.proofs.lemmas.Bool.Decides.{nat_tests}
use Rattle.std.proofs.lemmas.List.{length-set, get_or-set_same, get_or-set_other, get_or_past}
use Rattle.std.proofs.lemmas.Nat.{and_assoc, and_comm, and_mask, and_mod, and_shr, or_mod, or_shr}
use Rattle.std.proofs.lemmas.Nat.Bits.{bit_at_and, bit_at_or, same_from_bits}
use Rattle.gba_terms.specs.Bits.{bit, field}
use Rattle.gba_register.specs.Rows.{row_at}
use Rattle.gba_serial.specs.End.{ended, ended_of, finished, peer_word, send_after, words_after}
use Rattle.gba_serial.specs.Law.{KeepsTransfer, WritesKeepTransfers}
use Rattle.gba_serial.specs.Making.{IsSeat, seat_of}
use Rattle.gba_serial.specs.Registers.{serial_kept, serial_rows}
use Rattle.gba_serial.specs.SerialUnit.{SerialUnit, data_word, is_peer, is_running, is_wired, known_mode, mode_of, serial_at_reset, speed_of}
use Rattle.gba_serial.specs.Take.{answered, can_answer, end_of, ends_later, is_answered, is_proper_start, learned, multi_answered, normal_answered, taken, with_known, with_multi_reply, with_normal_reply, with_reply, with_reply_of, with_start, waits}
use Rattle.gba_serial.specs.Tell.{silent}
use Rattle.gba_serial.specs.Timing.{chosen_mode, cut_word, is_multi, is_normal, is_same, is_word_of, mode_by, multi_end, normal_end, transfer_end}
use Rattle.gba_serial.specs.Write.{begins, begun, busy_control, first_words, idle_control, multi_begun, next_mode, none_received, normal_begun, put_at, received_from, stores_start_bit, with_control, with_select, with_word, written}
use Rattle.gba_serial.specs.declared.transfer.Running.{Running}
use Rattle.link_node.specs.declared.signal.Incoming.{Incoming}
use Rattle.link_node.specs.declared.signal.LinkMode.{LinkMode}
use Rattle.link_node.specs.declared.signal.LinkMode.TheVariants.{Normal8, Normal32, Multi, Other}
use Rattle.link_node.specs.declared.signal.Start.{Start}
use Rattle.gba_device_laws.specs.Cable.{RunHolds, SerialHolds, SerialStays, last_clock}
use Rattle.gba_device_laws.specs.Holding.{HasStoredBits}
use Rattle.gba_device_laws.proofs.Masks.{and-twice, at-place, nothing-stored}

-- ---- bits

most-within : (a b m : ℕ) → min a m ≡ a → min b m ≡ b → min (max a b) m ≡ max a b
most-within a b m one two = grind (arith, one, two)

-- two numbers within a mask are within it together
pub both-within : (one other mask : ℕ) → bit_and one mask ≡ one → bit_and other mask ≡ other
    → bit_and (bit_or one other) mask ≡ bit_or one other
both-within one other mask first second =
    same_from_bits (bit_and (bit_or one other) mask) (bit_or one other) (λ i.
    let a = sym (bit_at_and one mask i) ∙ ap (λ n. bit_at n i) first in
    let b = sym (bit_at_and other mask i) ∙ ap (λ n. bit_at n i) second in
    bit_at_and (bit_or one other) mask i ∙ ap (λ n. min n (bit_at mask i)) (bit_at_or one other i)
    ∙ most-within (bit_at one i) (bit_at other i) (bit_at mask i) a b ∙ sym (bit_at_or one other i))

-- a part of a mask is within it
pub part-within : (value part mask : ℕ) → bit_and part mask ≡ part
    → bit_and (bit_and value part) mask ≡ bit_and value part
part-within value part mask is = and_assoc mask value part ∙ ap (bit_and value) is

cleared-within : (value cleared mask : ℕ) → bit_and value mask ≡ value
    → bit_and (bit_and value cleared) mask ≡ bit_and value cleared
cleared-within value cleared mask is =
    and_assoc mask value cleared ∙ ap (bit_and value) (and_comm cleared mask) ∙ sym (and_assoc cleared value mask)
    ∙ ap (λ n. bit_and n cleared) is

half-within : (value : ℕ) → value < 2 ^ 16 → bit_and value 0xffff ≡ value
half-within value small = and_mask value 16 ∙ mod-eq_of_lt small

within-half : (value : ℕ) → bit_and value 0xffff ≡ value → value < 2 ^ 16
within-half value is = let cut = and_mask value 16 in omega (arith, is, cut)

-- ---- words

-- a mode that has transfers
abbrev has_transfers : LinkMode → Bool
has_transfers mode = is_multi mode || is_normal mode

word-cut : (mode : LinkMode) (word : ℕ) → has_transfers mode ≡ true → is_word_of mode (cut_word mode word) ≡ true
unfolding is_word_of
word-cut Normal8 word has = grind (arith, nat_tests)
word-cut Normal32 word has = grind (arith, nat_tests)
word-cut Multi word has = grind (arith, nat_tests)
word-cut Other word has = has

word-data : (mode : LinkMode) (u : SerialUnit) → has_transfers mode ≡ true → is_word_of mode (data_word mode u) ≡ true
unfolding is_word_of
word-data Normal8 u has = grind (arith, nat_tests)
word-data Normal32 u has = grind (arith, nat_tests)
word-data Multi u has = grind (arith, nat_tests)
word-data Other u has = has

word-none : (mode : LinkMode) → has_transfers mode ≡ true → is_word_of mode 0 ≡ true
unfolding is_word_of
word-none Normal8 has = refl
word-none Normal32 has = refl
word-none Multi has = refl
word-none Other has = has

multi-transfers : (mode : LinkMode) → is_multi mode ≡ true → has_transfers mode ≡ true
multi-transfers mode is = rw is refl

-- a mode in which a word of a transfer is one
word-transfers : (mode : LinkMode) (word : ℕ) → is_word_of mode word ≡ true → has_transfers mode ≡ true
unfolding is_word_of
word-transfers Normal8 word is = refl
word-transfers Normal32 word is = refl
word-transfers Multi word is = refl
word-transfers Other word is = is

-- ---- ends

multi-end-small : (count speed clock : ℕ) → count ≤ 4 → clock ≤ last_clock → multi_end count speed clock < 2 ^ 40
multi-end-small count speed clock few near = grind (arith, nat_tests, few, near)

normal-end-small : (round : ℕ) (mode : LinkMode) (speed clock : ℕ) → round ≤ 2048 → clock ≤ last_clock
    → normal_end round mode speed clock < 2 ^ 40
normal-end-small round Normal8 speed clock short near = grind (arith, nat_tests, short, near)
normal-end-small round Normal32 speed clock short near = grind (arith, nat_tests, short, near)
normal-end-small round Multi speed clock short near = grind (arith, nat_tests, short, near)
normal-end-small round Other speed clock short near = grind (arith, nat_tests, short, near)

transfer-end-small : (count round : ℕ) (mode : LinkMode) (speed clock : ℕ) → count ≤ 4 → round ≤ 2048
    → clock ≤ last_clock → transfer_end count round mode speed clock < 2 ^ 40
transfer-end-small count round mode speed clock few short near = by_mode (is_multi mode)
  where
    by_mode : (test : Bool) → (if test then multi_end count speed clock else normal_end round mode speed clock) < 2 ^ 40
    by_mode true = multi-end-small count speed clock few near
    by_mode false = normal-end-small round mode speed clock short near

-- ---- modes

field-or : (a b low width : ℕ) → field (bit_or a b) low width ≡ bit_or (field a low width) (field b low width)
field-or a b low width = ap (λ n. n % 2 ^ width) (or_shr a b low) ∙ or_mod (a / 2 ^ low) (b / 2 ^ low) width

field-and : (a b low width : ℕ) → field (bit_and a b) low width ≡ bit_and (field a low width) (field b low width)
field-and a b low width = ap (λ n. n % 2 ^ width) (and_shr a b low) ∙ and_mod (a / 2 ^ low) (b / 2 ^ low) width

and-none : (n : ℕ) → bit_and n 0 ≡ 0
and-none n = let cut = and_mask n 0 in omega (arith, cut)

or-none : (n : ℕ) → bit_or n 0 ≡ n
or-none n = or_comm n 0

and-three : (n : ℕ) → bit_and (n % 4) 3 ≡ n % 4
and-three n = let cut = and_mask (n % 4) 2 in omega (arith, cut)

-- SIOCNT after a write while no transfer runs has the mode that is written, and bit 7 is none of a mode
choice-idle : (bits start : ℕ) → field (bit_or (bit_and bits 0x700b) (bit_and start 0x0080)) 12 2 ≡ field bits 12 2
choice-idle bits start =
    field-or (bit_and bits 0x700b) (bit_and start 0x0080) 12 2
    ∙ ap (λ x. bit_or x (field (bit_and start 0x0080) 12 2)) (field-and bits 0x700b 12 2)
    ∙ ap (bit_or (bit_and (field bits 12 2) 3)) (field-and start 0x0080 12 2 ∙ and-none (field start 12 2))
    ∙ or-none (bit_and (field bits 12 2) 3) ∙ and-three (bits / 4096)

choice-busy-bit : (control : ℕ) → field (bit_or control 0x0080) 12 2 ≡ field control 12 2
choice-busy-bit control = field-or control 0x0080 12 2 ∙ or-none (field control 12 2)

mode-choice : (select one other : ℕ) → field one 12 2 ≡ field other 12 2 → mode_by select one ≡ mode_by select other
mode-choice select one other same = ap (λ choice. if bit select 15 then Other else chosen_mode choice) same

-- ---- registers

-- the halfwords as they are stored
record AreRegisters (u : SerialUnit) : Type 0 where
  long : length u.words ≡ 4
  word0 : bit_and (get_or u.words 0 0) 0xffff ≡ get_or u.words 0 0
  word1 : bit_and (get_or u.words 1 0) 0xffff ≡ get_or u.words 1 0
  word2 : bit_and (get_or u.words 2 0) 0xffff ≡ get_or u.words 2 0
  word3 : bit_and (get_or u.words 3 0) 0xffff ≡ get_or u.words 3 0
  control : bit_and u.control 0x708b ≡ u.control
  send : bit_and u.send 0xffff ≡ u.send
  select : bit_and u.select 0xc000 ≡ u.select

are-registers : (u : SerialUnit) → length u.words ≡ 4 → HasStoredBits serial_rows (λ at. serial_kept at u)
    → AreRegisters u
unfolding serial_rows row_at
are-registers u long stored = record {
  long = long;
  word0 = stored 0x120;
  word1 = stored 0x122;
  word2 = stored 0x124;
  word3 = stored 0x126;
  control = stored 0x128;
  send = stored 0x12a;
  select = stored 0x134;
}

registers-stored : (u : SerialUnit) → AreRegisters u → HasStoredBits serial_rows (λ at. serial_kept at u)
unfolding serial_rows row_at
registers-stored u is at =
    let holds : ℕ → Type 0 = λ k. bit_and (serial_kept k u) (row_at serial_rows k).write_mask ≡ serial_kept k u in
    at-place holds 0x120 at is.word0 (λ n0. at-place holds 0x122 at is.word1 (λ n1. at-place holds 0x124 at is.word2
    (λ n2. at-place holds 0x126 at is.word3
    (λ n3. at-place holds 0x128 at is.control (λ n4. at-place holds 0x12a at is.send
    (λ n5. at-place holds 0x134 at is.select (λ n6. nothing-stored (serial_kept at u) (row_at serial_rows at).write_mask
    (grind (arith, nat_tests, n0, n1, n2, n3, n4, n5, n6)))))))))

-- four words of sixteen bits, of which one becomes another
record AreWords (words : List ℕ) : Type 0 where
  long : length words ≡ 4
  halves : (place : ℕ) → bit_and (get_or words place 0) 0xffff ≡ get_or words place 0

words-set : (words : List ℕ) (place value : ℕ) → AreWords words → value < 2 ^ 16 → AreWords (set words place value)
words-set words place value are small = record {
  long = length-set words place value ∙ are.long;
  halves = λ at.
      ⊎_elim
      (λ (same : at ≡ place).
      ⊎_elim
      (λ (within : place < length words).
      let there : get_or (set words place value) at 0 ≡ value =
      ap (λ k. get_or (set words place value) k 0) same ∙ get_or-set_same words place value 0 within in
      rw there (half-within value small))
      (λ (past : length words ≤ place).
      let there : get_or (set words place value) at 0 ≡ 0 =
      get_or_past (set words place value) at 0 (omega (arith, same, past, length-set words place value)) in
      rw there refl)
      (cases_lt place (length words)))
      (λ (other : at ≢ place). rw (get_or-set_other words place at value 0 other) (are.halves at))
      (cases_eq at place);
}

words-of : (u : SerialUnit) → AreRegisters u → AreWords u.words
words-of u is = record {
  long = is.long;
  halves = λ at.
      let holds : ℕ → Type 0 = λ k. bit_and (get_or u.words k 0) 0xffff ≡ get_or u.words k 0 in
      at-place holds 0 at is.word0 (λ n0. at-place holds 1 at is.word1 (λ n1. at-place holds 2 at is.word2
      (λ n2. at-place holds 3 at is.word3 (λ n3. rw (get_or_past u.words at 0 (past at n0 n1 n2 n3)) refl))));
}
  where
    past : (k : ℕ) → k ≢ 0 → k ≢ 1 → k ≢ 2 → k ≢ 3 → length u.words ≤ k
    past k n0 n1 n2 n3 = omega (arith, is.long, n0, n1, n2, n3)

all-ones : AreWords (0xffff ∷ 0xffff ∷ 0xffff ∷ 0xffff ∷ [])
all-ones = record {
  long = refl;
  halves = λ at.
      let words : List ℕ = 0xffff ∷ 0xffff ∷ 0xffff ∷ 0xffff ∷ [] in
      let holds : ℕ → Type 0 = λ k. bit_and (get_or words k 0) 0xffff ≡ get_or words k 0 in
      at-place holds 0 at refl (λ n0. at-place holds 1 at refl (λ n1. at-place holds 2 at refl
      (λ n2. at-place holds 3 at refl (λ n3. rw (get_or_past words at 0 (omega (arith, n0, n1, n2, n3))) refl))));
}

registers-as : (u : SerialUnit) → AreWords u.words → bit_and u.control 0x708b ≡ u.control
    → bit_and u.send 0xffff ≡ u.send → bit_and u.select 0xc000 ≡ u.select → AreRegisters u
registers-as u are control send select = record {
  long = are.long;
  word0 = are.halves 0;
  word1 = are.halves 1;
  word2 = are.halves 2;
  word3 = are.halves 3;
  control = control;
  send = send;
  select = select;
}

-- ---- the unit

-- what holds of a unit, its registers one by one
record Holds (u : SerialUnit) : Type 0 where
  seat : IsSeat (seat_of u)
  players : length u.known ≡ 4
  others : (player : ℕ) → is_peer player u ≡ false → known_mode u.known player ≡ Other
  registers : AreRegisters u
  run : IfSome u.run (RunHolds (mode_of u))

holds-of : (u : SerialUnit) → SerialHolds u → Holds u
holds-of u is = record {
  seat = is.seat;
  players = is.players;
  others = is.others;
  registers = are-registers u is.words is.stored;
  run = is.run;
}

serial-of : (u : SerialUnit) → Holds u → SerialHolds u
serial-of u is = record {
  seat = is.seat;
  words = is.registers.long;
  players = is.players;
  others = is.others;
  stored = registers-stored u is.registers;
  run = is.run;
}

either-unit : (test : Bool) (one other : SerialUnit) → Holds one → Holds other → Holds (if test then one else other)
either-unit true one other first second = first
either-unit false one other first second = second

reset-holds : (player count round : ℕ) → player < count → count ≤ 4 → round ≤ 2048
    → Holds (serial_at_reset player count round)
reset-holds player count round seated few short = record {
  seat = record { player = seated; count = few; round = short };
  players = refl;
  others = λ at none. others at;
  registers = record {
    long = refl;
    word0 = refl;
    word1 = refl;
    word2 = refl;
    word3 = refl;
    control = refl;
    send = refl;
    select = refl;
  };
  run = _;
}
  where
    modes : List LinkMode
    modes = Other ∷ Other ∷ Other ∷ Other ∷ []

    others : (at : ℕ) → known_mode modes at ≡ Other
    others at =
        let holds : ℕ → Type 0 = λ k. known_mode modes k ≡ Other in
        at-place holds 0 at refl (λ n0. at-place holds 1 at refl (λ n1. at-place holds 2 at refl
        (λ n2. at-place holds 3 at refl (λ n3. get_or_past modes at Other (omega (arith, n0, n1, n2, n3))))))

told-holds : (u : SerialUnit) → Holds u → Holds (silent u)
told-holds u is = record {
  seat = is.seat;
  players = is.players;
  others = is.others;
  registers = record {
    long = is.registers.long;
    word0 = is.registers.word0;
    word1 = is.registers.word1;
    word2 = is.registers.word2;
    word3 = is.registers.word3;
    control = is.registers.control;
    send = is.registers.send;
    select = is.registers.select;
  };
  run = is.run;
}

multi-mode : (mode : LinkMode) → is_multi mode ≡ true → mode ≡ Multi
multi-mode Normal8 is = absurd (false≢true is)
multi-mode Normal32 is = absurd (false≢true is)
multi-mode Multi is = refl
multi-mode Other is = absurd (false≢true is)

send-half : (u : SerialUnit) → data_word Multi u < 2 ^ 16
send-half u = omega arith

multi-begun-holds : (clock : ℕ) (u : SerialUnit) → clock ≤ last_clock → is_multi (mode_of u) ≡ true → Holds u
    → Holds (multi_begun clock u)
unfolding multi_begun
multi-begun-holds clock u near is_it is = record {
  seat = is.seat;
  players = is.players;
  others = is.others;
  registers =
      registers-as (multi_begun clock u)
      (words-set (0xffff ∷ 0xffff ∷ 0xffff ∷ 0xffff ∷ []) u.player (data_word Multi u) all-ones (send-half u))
      is.registers.control is.registers.send is.registers.select;
  run = record {
    players = length-set none_received u.player true;
    end = multi-end-small u.count (speed_of u) clock is.seat.count near;
    sent = rw (multi-mode (mode_of u) is_it) (word-data Multi u refl);
    word = word-none (mode_of u) (multi-transfers (mode_of u) is_it);
  };
}

normal-begun-holds : (clock : ℕ) (u : SerialUnit) → clock ≤ last_clock → has_transfers (mode_of u) ≡ true → Holds u
    → Holds (normal_begun clock u)
unfolding normal_begun
normal-begun-holds clock u near has is = record {
  seat = is.seat;
  players = is.players;
  others = is.others;
  registers = record {
    long = is.registers.long;
    word0 = is.registers.word0;
    word1 = is.registers.word1;
    word2 = is.registers.word2;
    word3 = is.registers.word3;
    control = is.registers.control;
    send = is.registers.send;
    select = is.registers.select;
  };
  run = record {
    players = refl;
    end = normal-end-small u.round (mode_of u) (speed_of u) clock is.seat.round near;
    sent = word-data (mode_of u) u has;
    word = word-none (mode_of u) has;
  };
}

-- a transfer begins in a mode that has transfers
begun-holds : (clock : ℕ) (u : SerialUnit) → clock ≤ last_clock → has_transfers (mode_of u) ≡ true → Holds u
    → Holds (begun clock u)
begun-holds clock u near has is =
    by_mode (is_multi (mode_of u)) refl
  where
    by_mode : (test : Bool) → is_multi (mode_of u) ≡ test
        → Holds (if test then multi_begun clock u else normal_begun clock u)
    by_mode true is_it = multi-begun-holds clock u near is_it is
    by_mode false other = normal-begun-holds clock u near has is

control-holds : (control : ℕ) (u : SerialUnit) → is_running u ≡ false → bit_and control 0x708b ≡ control → Holds u
    → Holds (record u { control = control })
control-holds control u idle within is = record {
  seat = is.seat;
  players = is.players;
  others = is.others;
  registers = record {
    long = is.registers.long;
    word0 = is.registers.word0;
    word1 = is.registers.word1;
    word2 = is.registers.word2;
    word3 = is.registers.word3;
    control = within;
    send = is.registers.send;
    select = is.registers.select;
  };
  run = no-run u.run idle;
}
  where
    no-run : (run : Option Running) → is_some run ≡ false → IfSome run (RunHolds (mode_by u.select control))
    no-run None none = _
    no-run (Some run) none = absurd (false≢true (sym none))

idle-within : (bits : ℕ) (u : SerialUnit) → bit_and (idle_control bits u) 0x708b ≡ idle_control bits u
idle-within bits u =
    let start = if stores_start_bit bits u then bits else u.control in
    both-within (bit_and bits 0x700b) (bit_and start 0x0080) 0x708b (part-within bits 0x700b 0x708b refl)
    (part-within start 0x0080 0x708b refl)

busy-within : (bits : ℕ) (u : SerialUnit) → bit_and (busy_control bits u) 0x708b ≡ busy_control bits u
busy-within bits u =
    both-within (bit_and bits 0x4008) (bit_and u.control 0x3083) 0x708b (part-within bits 0x4008 0x708b refl)
    (part-within u.control 0x3083 0x708b refl)

-- a write that begins a transfer is one to a mode that has transfers
begins-transfers : (bits : ℕ) (u : SerialUnit) → begins bits u ≡ true → has_transfers (next_mode bits u) ≡ true
begins-transfers bits u is = grind (arith, nat_tests, is)

idle-mode : (bits : ℕ) (u : SerialUnit) → mode_of (record u { control = idle_control bits u }) ≡ next_mode bits u
idle-mode bits u =
    mode-choice u.select (idle_control bits u) bits
    (choice-idle bits (if stores_start_bit bits u then bits else u.control))

idle-control-holds : (clock bits : ℕ) (u : SerialUnit) → clock ≤ last_clock → is_running u ≡ false → Holds u
    → Holds (if begins bits u then begun clock (record u { control = idle_control bits u })
    else record u { control = idle_control bits u })
idle-control-holds clock bits u near idle is =
    by_begins (begins bits u) refl
  where
    after : Holds (record u { control = idle_control bits u })
    after = control-holds (idle_control bits u) u idle (idle-within bits u) is

    by_begins : (test : Bool) → begins bits u ≡ test
        → Holds (if test then begun clock (record u { control = idle_control bits u })
        else record u { control = idle_control bits u })
    by_begins true starts =
        begun-holds clock (record u { control = idle_control bits u }) near
        (ap has_transfers (idle-mode bits u) ∙ begins-transfers bits u starts) after
    by_begins false stays = after

-- writes

running-holds : (u after : SerialUnit) → KeepsTransfer u after → IsSeat (seat_of after) → length after.known ≡ 4
    → ((player : ℕ) → is_peer player after ≡ false → known_mode after.known player ≡ Other) → AreRegisters after
    → Holds u → Holds after
running-holds u after kept seat players others registers is = record {
  seat = seat;
  players = players;
  others = others;
  registers = registers;
  run = rw (kept.run, kept.mode) is.run;
}

word-holds : (place bits : ℕ) (u : SerialUnit) → bits < 2 ^ 16 → Holds u → Holds (with_word place bits u)
word-holds place bits u small is = record {
  seat = is.seat;
  players = is.players;
  others = is.others;
  registers =
      registers-as (with_word place bits u) (words (is_running u)) is.registers.control is.registers.send
      is.registers.select;
  run = is.run;
}
  where
    words : (test : Bool) → AreWords (if test then u.words else set u.words place bits)
    words true = words-of u is.registers
    words false = words-set u.words place bits (words-of u is.registers) small

send-holds : (bits : ℕ) (u : SerialUnit) → bit_and bits 0xffff ≡ bits → Holds u → Holds (record u { send = bits })
send-holds bits u small is = record {
  seat = is.seat;
  players = is.players;
  others = is.others;
  registers =
      registers-as (record u { send = bits }) (words-of u is.registers) is.registers.control small is.registers.select;
  run = is.run;
}

select-holds : (bits : ℕ) (u : SerialUnit) → bit_and bits 0xc000 ≡ bits → Holds u → Holds (with_select bits u)
select-holds bits u small is =
    by_run u.run refl
  where
    by_run : (run : Option Running) → u.run ≡ run → Holds (record u { select = if is_some run then u.select else bits })
    by_run None none = record {
      seat = is.seat;
      players = is.players;
      others = is.others;
      registers =
          registers-as (record u { select = bits }) (words-of u is.registers) is.registers.control
          is.registers.send small;
      run = rw none _;
    }
    by_run (Some run) some = is

control-write-holds : (clock bits : ℕ) (u : SerialUnit) → clock ≤ last_clock
    → (is_running u ≡ true → KeepsTransfer u (with_control clock bits u)) → Holds u → Holds (with_control clock bits u)
unfolding with_control
control-write-holds clock bits u near keeps is =
    by_running (is_running u) refl keeps
  where
    by_running : (test : Bool) → is_running u ≡ test
        → (test ≡ true → KeepsTransfer u (if test then record u { control = busy_control bits u }
        else if begins bits u then begun clock (record u { control = idle_control bits u })
        else record u { control = idle_control bits u }))
        → Holds (if test then record u { control = busy_control bits u }
        else if begins bits u then begun clock (record u { control = idle_control bits u })
        else record u { control = idle_control bits u })
    by_running true runs kept =
        running-holds u (record u { control = busy_control bits u }) (kept refl) is.seat is.players is.others
        (registers-as (record u { control = busy_control bits u }) (words-of u is.registers) (busy-within bits u)
        is.registers.send is.registers.select) is
    by_running false idle kept = idle-control-holds clock bits u near idle is

write-holds : WritesKeepTransfers → (clock offset value : ℕ) (u : SerialUnit) → clock ≤ last_clock → Holds u
    → Holds (written clock offset value u)
unfolding serial_rows row_at
write-holds keeps clock offset value u near is =
    at-place after 0x120 offset (word-holds 0 (bit_and value 0xffff) u half is)
    (λ n0. at-place after 0x122 offset (word-holds 1 (bit_and value 0xffff) u half is)
    (λ n1. at-place after 0x124 offset (word-holds 2 (bit_and value 0xffff) u half is)
    (λ n2. at-place after 0x126 offset (word-holds 3 (bit_and value 0xffff) u half is)
    (λ n3. at-place after 0x128 offset
    (control-write-holds clock (bit_and value 0x708b) u near (λ runs. keeps clock 0x128 value u runs) is)
    (λ n4. at-place after 0x12a offset (send-holds (bit_and value 0xffff) u (and-twice value 0xffff) is)
    (λ n5. at-place after 0x134 offset (select-holds (bit_and value 0xc000) u (and-twice value 0xc000) is)
    (λ n6. rw (nowhere offset (bit_and value (row_at serial_rows offset).write_mask) n0 n1 n2 n3 n4 n5 n6) is)))))))
  where
    after : ℕ → Type 0
    after k = Holds (written clock k value u)

    half : bit_and value 0xffff < 2 ^ 16
    half = let cut = and_mask value 16 in omega (arith, cut)

    nowhere : (k bits : ℕ) → k ≢ 0x120 → k ≢ 0x122 → k ≢ 0x124 → k ≢ 0x126 → k ≢ 0x128 → k ≢ 0x12a → k ≢ 0x134
        → put_at clock k bits u ≡ u
    nowhere k bits n0 n1 n2 n3 n4 n5 n6 = grind (arith, nat_tests, n0, n1, n2, n3, n4, n5, n6)

-- signals

known-holds : (due : Incoming) (u : SerialUnit) → is_peer due.sender u ≡ true → Holds u → Holds (with_known due u)
known-holds due u peer is = record {
  seat = is.seat;
  players = length-set u.known due.sender due.signal.mode ∙ is.players;
  others = λ player none.
      get_or-set_other u.known due.sender player due.signal.mode Other
      (λ same. false≢true (sym none ∙ ap (λ k. is_peer k u) same ∙ peer)) ∙ is.others player none;
  registers = record {
    long = is.registers.long;
    word0 = is.registers.word0;
    word1 = is.registers.word1;
    word2 = is.registers.word2;
    word3 = is.registers.word3;
    control = is.registers.control;
    send = is.registers.send;
    select = is.registers.select;
  };
  run = is.run;
}

reply-holds : (sender : ℕ) (reply : Option ℕ) (u : SerialUnit) → Holds u → Holds (with_reply sender reply u)
unfolding with_reply
reply-holds sender None u is = is
reply-holds sender (Some word) u is =
    by_run u.run refl is.run
  where
    multi : (run : Running) → RunHolds (mode_of u) run → Holds (with_multi_reply sender word run u)
    multi run holds = record {
      seat = is.seat;
      players = is.players;
      others = is.others;
      registers =
          registers-as (with_multi_reply sender word run u)
          (words-set u.words sender (cut_word Multi word) (words-of u is.registers) (omega arith)) is.registers.control
          is.registers.send is.registers.select;
      run = record {
        players = length-set run.got sender true ∙ holds.players;
        end = holds.end;
        sent = holds.sent;
        word = holds.word;
      };
    }

    normal : (run : Running) → RunHolds (mode_of u) run → Holds (with_normal_reply sender word run u)
    normal run holds = record {
      seat = is.seat;
      players = is.players;
      others = is.others;
      registers = record {
        long = is.registers.long;
        word0 = is.registers.word0;
        word1 = is.registers.word1;
        word2 = is.registers.word2;
        word3 = is.registers.word3;
        control = is.registers.control;
        send = is.registers.send;
        select = is.registers.select;
      };
      run = record {
        players = length-set run.got sender true ∙ holds.players;
        end = holds.end;
        sent = holds.sent;
        word = word-cut (mode_of u) word (word-transfers (mode_of u) run.sent holds.sent);
      };
    }

    by_run : (run : Option Running) → u.run ≡ run → IfSome run (RunHolds (mode_of u))
        → Holds (with_reply_of sender word run u)
    by_run None none holds = is
    by_run (Some run) some holds =
        either-unit (is_multi (mode_of u)) (with_multi_reply sender word run u)
        (if run.starter && is_wired sender u then with_normal_reply sender word run u else u) (multi run holds)
        (either-unit (run.starter && is_wired sender u) (with_normal_reply sender word run u) u (normal run holds) is)

multi-answered-holds : (due : Incoming) (start : Start) (u : SerialUnit) → due.signal.clock ≤ last_clock
    → is_multi (mode_of u) ≡ true → Holds u → Holds (multi_answered due start u)
multi-answered-holds due start u near is_it is = record {
  seat = is.seat;
  players = is.players;
  others = is.others;
  registers =
      registers-as (multi_answered due start u)
      (words-set (first_words 0 (cut_word Multi start.word)) u.player (data_word Multi u)
      (words-set (0xffff ∷ 0xffff ∷ 0xffff ∷ 0xffff ∷ []) 0 (cut_word Multi start.word) all-ones (omega arith))
      (send-half u))
      (both-within u.control 0x0080 0x708b is.registers.control refl) is.registers.send is.registers.select;
  run = subst (λ mode. RunHolds mode answer) (sym same-mode) answer-holds;
}
  where
    answer : Running
    answer = record {
      starter = false;
      end = end_of due start u;
      sent = data_word Multi u;
      word = 0;
      got = set (received_from 0) u.player true;
    }

    same-mode : mode_of (multi_answered due start u) ≡ mode_of u
    same-mode = mode-choice u.select (bit_or u.control 0x0080) u.control (choice-busy-bit u.control)

    answer-holds : RunHolds (mode_of u) answer
    answer-holds = record {
      players = length-set (received_from 0) u.player true;
      end =
          transfer-end-small u.count u.round due.signal.mode start.speed due.signal.clock is.seat.count
          is.seat.round near;
      sent = rw (multi-mode (mode_of u) is_it) (word-data Multi u refl);
      word = word-none (mode_of u) (multi-transfers (mode_of u) is_it);
    }

normal-answered-holds : (due : Incoming) (start : Start) (u : SerialUnit) → due.signal.clock ≤ last_clock
    → has_transfers (mode_of u) ≡ true → Holds u → Holds (normal_answered due start u)
normal-answered-holds due start u near has is = record {
  seat = is.seat;
  players = is.players;
  others = is.others;
  registers = record {
    long = is.registers.long;
    word0 = is.registers.word0;
    word1 = is.registers.word1;
    word2 = is.registers.word2;
    word3 = is.registers.word3;
    control = is.registers.control;
    send = is.registers.send;
    select = is.registers.select;
  };
  run = record {
    players = length-set none_received due.sender true;
    end =
        transfer-end-small u.count u.round due.signal.mode start.speed due.signal.clock is.seat.count
        is.seat.round near;
    sent = word-data (mode_of u) u has;
    word = word-cut (mode_of u) start.word has;
  };
}

same-transfers : (one other : LinkMode) → is_same one other ≡ true → has_transfers other ≡ true
    → has_transfers one ≡ true
same-transfers Normal8 _ same has = refl
same-transfers Normal32 _ same has = refl
same-transfers Multi _ same has = refl
same-transfers Other Normal8 same has = absurd (false≢true same)
same-transfers Other Normal32 same has = absurd (false≢true same)
same-transfers Other Multi same has = absurd (false≢true same)
same-transfers Other Other same has = has

proper-transfers : (mode : LinkMode) (one two three : Bool)
    → (if is_multi mode then one else is_normal mode && two && three) ≡ true → has_transfers mode ≡ true
proper-transfers Normal8 one two three is = refl
proper-transfers Normal32 one two three is = refl
proper-transfers Multi one two three is = refl
proper-transfers Other one two three is = absurd (false≢true is)

answered-transfers : (due : Incoming) (start : Start) (u : SerialUnit) → is_answered due start u ≡ true
    → has_transfers (mode_of u) ≡ true
answered-transfers due start u is =
    let whole = and_parts (is_proper_start due start u && ends_later due start u) (can_answer due u) is in
    let proper = and_parts (is_proper_start due start u) (ends_later due start u) whole.0 in
    let can =
    and_parts (not (is_running u) && is_same (mode_of u) due.signal.mode) (is_multi (mode_of u) || waits u) whole.1 in
    let same = and_parts (not (is_running u)) (is_same (mode_of u) due.signal.mode) can.0 in
    same-transfers (mode_of u) due.signal.mode same.1
    (proper-transfers due.signal.mode ((due.sender == 0) && nat_lt start.speed 4) (is_wired due.sender u)
    (nat_lt start.speed 2) proper.0)

start-holds : (due : Incoming) (start : Option Start) (u : SerialUnit) → due.signal.clock ≤ last_clock → Holds u
    → Holds (with_start due start u)
unfolding with_start
start-holds due None u near is = is
start-holds due (Some start) u near is =
    by_answered (is_answered due start u) refl
  where
    by_mode : (test : Bool) → is_multi (mode_of u) ≡ test → has_transfers (mode_of u) ≡ true
        → Holds (if test then multi_answered due start u else normal_answered due start u)
    by_mode true is_it has = multi-answered-holds due start u near is_it is
    by_mode false other has = normal-answered-holds due start u near has is

    by_answered : (test : Bool) → is_answered due start u ≡ test → Holds (if test then answered due start u else u)
    by_answered true answers = by_mode (is_multi (mode_of u)) refl (answered-transfers due start u answers)
    by_answered false ignored = is

taken-holds : (due : Incoming) (u : SerialUnit) → due.signal.clock ≤ last_clock → Holds u → Holds (taken due u)
unfolding taken
taken-holds due u near is =
    by_peer (is_peer due.sender u) refl
  where
    by_peer : (test : Bool) → is_peer due.sender u ≡ test
        → Holds (if test
        then with_start due due.signal.start (with_reply due.sender due.signal.reply (with_known due u)) else u)
    by_peer true peer =
        start-holds due due.signal.start (with_reply due.sender due.signal.reply (with_known due u)) near
        (reply-holds due.sender due.signal.reply (with_known due u) (known-holds due u peer is))
    by_peer false none = is

learned-holds : (due : Incoming) (u : SerialUnit) → Holds u → Holds (learned due u)
learned-holds due u is =
    by_peer (is_peer due.sender u) refl
  where
    by_peer : (test : Bool) → is_peer due.sender u ≡ test → Holds (if test then with_known due u else u)
    by_peer true peer = known-holds due u peer is
    by_peer false none = is

-- ends

sent-after : (mode : LinkMode) (run : Running) (u : SerialUnit) → bit_and u.send 0xffff ≡ u.send
    → bit_and (send_after mode run u) 0xffff ≡ send_after mode run u
sent-after Normal8 run u is = half-within (field (peer_word Normal8 run) 0 8) (omega arith)
sent-after Normal32 run u is = is
sent-after Multi run u is = is
sent-after Other run u is = is

words-behind : (mode : LinkMode) (run : Running) (u : SerialUnit) → AreWords u.words → AreWords (words_after mode run u)
words-behind Normal8 run u are = are
words-behind Normal32 run u are =
    words-set (set u.words 0 (field (peer_word Normal32 run) 0 16)) 1 (field (peer_word Normal32 run) 16 16)
    (words-set u.words 0 (field (peer_word Normal32 run) 0 16) are (omega arith)) (omega arith)
words-behind Multi run u are = are
words-behind Other run u are = are

finished-holds : (run : Running) (u : SerialUnit) → Holds u → Holds (finished run u)
unfolding finished
finished-holds run u is = record {
  seat = is.seat;
  players = is.players;
  others = is.others;
  registers =
      registers-as (finished run u) (words-behind (mode_of u) run u (words-of u is.registers))
      (cleared-within u.control 0xff7f 0x708b is.registers.control) (sent-after (mode_of u) run u is.registers.send)
      is.registers.select;
  run = _;
}

ended-holds : (clock : ℕ) (u : SerialUnit) → Holds u → Holds (ended clock u)
ended-holds clock u is =
    by_run u.run
  where
    by_run : (run : Option Running) → Holds (ended_of clock run u)
    by_run None = is
    by_run (Some run) = either-unit (nat_le run.end clock) (finished run u) u (finished-holds run u is) is

pub serial-stays : WritesKeepTransfers → SerialStays
serial-stays keeps = record {
  reset = λ player count round seated few short.
      serial-of (serial_at_reset player count round) (reset-holds player count round seated few short);
  write = λ clock offset value u near is.
      serial-of (written clock offset value u) (write-holds keeps clock offset value u near (holds-of u is));
  taken = λ due u near is. serial-of (taken due u) (taken-holds due u near (holds-of u is));
  learned = λ due u is. serial-of (learned due u) (learned-holds due u (holds-of u is));
  ended = λ clock u is. serial-of (ended clock u) (ended-holds clock u (holds-of u is));
  told = λ u is. serial-of (silent u) (told-holds u (holds-of u is));
}
