-- There is room for all transfers that end.
use Rattle.std.proofs.Common.{◌≡◌, ℕ, ◌+◌, ◌-◌, ◌*◌, ◌^◌, ◌<◌, ◌≤◌, Bool, true, false, Option, None, Some, ◌⊎◌, inl, inr, refl, ◌∙◌, arith, if◌then◌else◌}
use Rattle.std.specs.Prelude.{nat_le}
use Rattle.std.proofs.lemmas.Bool.Decides.{nat_tests}
use Rattle.gba_bus.specs.Regions.{is_io, region_of}
use Rattle.gba_bus.specs.declared.width.Width.{Width}
use Rattle.gba_register.specs.Accesses.{merged}
use Rattle.gba_register.proofs.Accesses.{written-keeps}
use Rattle.gba_io.specs.Base.{words_from}
use Rattle.gba_io.specs.Bus.{core_written, io_offset, register_written}
use Rattle.gba_io.specs.Cable.{AreApart, EndsFit, EndsStayFit, NextEndFits, WritesKeepEnds, board_ended, board_taken}
use Rattle.gba_io.specs.Core.{Core}
use Rattle.gba_io.specs.Ended.{Ended, count_with}
use Rattle.gba_io.specs.SerialRegisters.{is_serial, serial_put, serial_written_at}
use Rattle.gba_io.specs.declared.base.Base.{Base}
use Rattle.gba_io.specs.declared.board.Board.{Board}
use Rattle.gba_serial.specs.Apart.{EndsApart, next_end, next_end_of}
use Rattle.gba_serial.specs.End.{ended_of, ending_of, finished, transfer_of}
use Rattle.gba_serial.specs.Law.{StaysSeated}
use Rattle.gba_serial.specs.Registers.{serial_kept}
use Rattle.gba_serial.specs.SerialUnit.{SerialUnit}
use Rattle.gba_serial.specs.Take.{taken}
use Rattle.gba_serial.specs.declared.transfer.Running.{Running}
use Rattle.gba_serial.specs.declared.transfer.Transfer.{Transfer}
use Rattle.link_node.specs.declared.signal.Incoming.{Incoming}

either-core : (P : SerialUnit → Type 0) (test : Bool) (one other : Core) → P one.serial → P other.serial
    → P (if test then one else other).serial
either-core P true one other a b = a
either-core P false one other a b = b

-- writes at each width
module _ (apart : EndsApart) (seats : StaysSeated) where
  put-count : (clock offset value lanes : ℕ) (u : SerialUnit) → (serial_put clock offset value lanes u).count ≡ u.count
  unfolding serial_put
  put-count clock offset value lanes u =
      (seats.written clock offset (merged (serial_kept offset u) value lanes) u).count

  put-next : (clock offset value lanes bound : ℕ) (u : SerialUnit) → 1 ≤ u.count → bound ≤ clock + 512
      → bound ≤ next_end u → bound ≤ next_end (serial_put clock offset value lanes u)
  unfolding serial_put
  put-next clock offset value lanes bound u one soon before =
      apart.written clock offset (merged (serial_kept offset u) value lanes) bound u one soon before

  access-count : (clock offset : ℕ) (width : Width) (value : ℕ) (u : SerialUnit)
      → (serial_written_at clock offset width value u).count ≡ u.count
  access-count clock offset width value u =
      written-keeps (λ v. v.count ≡ u.count) (serial_put clock)
      (λ place bits lanes v before. put-count clock place bits lanes v ∙ before) offset width value u refl

  access-next : (clock offset : ℕ) (width : Width) (value bound : ℕ) (u : SerialUnit) → 1 ≤ u.count
      → bound ≤ clock + 512 → bound ≤ next_end u → bound ≤ next_end (serial_written_at clock offset width value u)
  access-next clock offset width value bound u one soon before =
      (written-keeps (λ v. (1 ≤ v.count) × (bound ≤ next_end v)) (serial_put clock)
      (λ place bits lanes v kept.
      let same = put-count clock place bits lanes v in
      (omega (arith, same, kept.0), put-next clock place bits lanes bound v kept.0 soon kept.1))
      offset width value u (one, before)).1

  register-count : (offset : ℕ) (width : Width) (value : ℕ) (c : Core)
      → (register_written offset width value c).serial.count ≡ c.serial.count
  unfolding register_written
  register-count offset width value c =
      either-core (λ u. u.count ≡ c.serial.count) (is_serial offset) _ _
      (access-count c.devices.clock offset width value c.serial) refl

  register-next : (offset : ℕ) (width : Width) (value bound : ℕ) (c : Core) → 1 ≤ c.serial.count
      → bound ≤ c.devices.clock + 512 → bound ≤ next_end c.serial
      → bound ≤ next_end (register_written offset width value c).serial
  unfolding register_written
  register-next offset width value bound c one soon before =
      either-core (λ u. bound ≤ next_end u) (is_serial offset) _ _
      (access-next c.devices.clock offset width value bound c.serial one soon before) before

  written-count : (c : Core) (address : ℕ) (width : Width) (value : ℕ)
      → (core_written c address width value).serial.count ≡ c.serial.count
  unfolding core_written
  written-count c address width value =
      either-core (λ u. u.count ≡ c.serial.count) (is_io (region_of address)) _ _
      (register-count (io_offset address) width value c) refl

  written-next : (bound : ℕ) (c : Core) (address : ℕ) (width : Width) (value : ℕ) → 1 ≤ c.serial.count
      → bound ≤ c.devices.clock + 512 → bound ≤ next_end c.serial
      → bound ≤ next_end (core_written c address width value).serial
  unfolding core_written
  written-next bound c address width value one soon before =
      either-core (λ u. bound ≤ next_end u) (is_io (region_of address)) _ _
      (register-next (io_offset address) width value bound c one soon before) before

  pub writes-keep-ends : WritesKeepEnds
  writes-keep-ends = record { next = written-next; count = written-count }

-- the ends up to a later clock
pub apart-later : (clock later end count : ℕ) (base : Base) → AreApart clock end count base → clock ≤ later
    → AreApart later end count base
apart-later clock later end count base apart after = record {
  past = omega (arith, apart.past);
  next = apart.next;
  since = omega (arith, apart.since);
  soon = apart.soon;
  recent = omega (arith, apart.recent);
}

-- another next end, which is no nearer than 512 cycles where the last wasn't
pub apart-kept : (clock end other count : ℕ) (base : Base) → AreApart clock end count base
    → ((bound : ℕ) → bound ≤ clock + 512 → bound ≤ end → bound ≤ other) → AreApart clock other count base
apart-kept clock end other count base apart keeps = record {
  past = apart.past;
  next = let kept = keeps (512 * (count + 1) - 2 ^ 49) (omega (arith, apart.past)) (omega (arith, apart.next)) in
      omega arith;
  since = apart.since;
  soon = λ some.
      let before = apart.soon some in
      let kept = keeps (512 * (count + 1) + base.clock - (512 * base.words + 1024)) (omega (arith, apart.since))
      (omega arith) in
      omega arith;
  recent = apart.recent;
}

-- the next one has ended
since-by : (clock end count : ℕ) (base : Base) → AreApart clock end count base → end ≤ clock
    → (base.words < count) ⊎ (count ≤ base.words)
    → 512 * (count + 1) + base.clock ≤ 512 * base.words + clock + 1024
since-by clock end count base apart over (inl some) = let before = apart.soon some in omega arith
since-by clock end count base apart over (inr none) = omega (arith, apart.recent)

less_or : (a b : ℕ) → (a < b) ⊎ (b ≤ a)
less_or a b = grind (arith, nat_tests)

apart-ended : (clock end other count : ℕ) (base : Base) → AreApart clock end count base → end ≤ clock
    → clock + 512 ≤ other → AreApart clock other (count + 1) base
apart-ended clock end other count base apart over far =
    let since = since-by clock end count base apart over (less_or base.words count) in
    record {
      past = omega (arith, apart.next);
      next = omega (arith, apart.past);
      since = since;
      soon = λ some. omega arith;
      recent = apart.recent;
    }

-- there is room for the next one
room-by : (clock end count until : ℕ) (base : Base) → AreApart clock end count base → clock < until → end < until
    → (base.words < count) ⊎ (count ≤ base.words) → count < base.words + words_from base until
room-by clock end count until base apart early soon (inl some) = let before = apart.soon some in omega arith
room-by clock end count until base apart early soon (inr none) = omega (arith, apart.recent)

-- an end
abbrev Fits : ℕ → Option Transfer → Ended → SerialUnit → Type 0
Fits clock transfer e u = AreApart clock (next_end u) (count_with transfer e) e.base

at_most : (a b : ℕ) → nat_le a b ≡ true → a ≤ b
at_most a b holds = grind arith

finished-next : (run : Running) (u : SerialUnit) → next_end (finished run u) ≡ 2 ^ 64 - 1
unfolding finished
finished-next run u = refl

fits-by : (test : Bool) (clock : ℕ) (run : Running) (u : SerialUnit) (e : Ended) → nat_le run.end clock ≡ test
    → AreApart clock run.end e.count e.base → AreApart clock (next_end u) e.count e.base → clock < 2 ^ 39
    → Fits clock (if test then Some (transfer_of run u) else None) e (if test then finished run u else u)
fits-by true clock run u e ends apart here few =
    let last = finished-next run u in
    apart-ended clock run.end (next_end (finished run u)) e.count e.base apart (at_most run.end clock ends)
    (omega (arith, few, last))
fits-by false clock run u e ends apart here few = here

fits-of : (run : Option Running) (clock : ℕ) (u : SerialUnit) (e : Ended)
    → AreApart clock (next_end_of run) e.count e.base → AreApart clock (next_end u) e.count e.base → clock < 2 ^ 39
    → Fits clock (ending_of clock run u) e (ended_of clock run u)
fits-of None clock u e apart here few = here
fits-of (Some run) clock u e apart here few = fits-by (nat_le run.end clock) clock run u e refl apart here few

module _ (apart : EndsApart) (seats : StaysSeated) where
  stays-later : (clock later : ℕ) (b : Board) → EndsFit clock b → clock ≤ later → EndsFit later b
  stays-later clock later b fits after = record {
    apart = apart-later clock later (next_end b.core.serial) b.ended.count b.ended.base fits.apart after;
    seat = fits.seat;
    few = fits.few;
  }

  has-room : (clock : ℕ) (b : Board) → EndsFit clock b → clock < b.ended.until → NextEndFits b
  has-room clock b fits early soon =
      room-by clock (next_end b.core.serial) b.ended.count b.ended.until b.ended.base fits.apart early soon
      (less_or b.ended.base.words b.ended.count)

  stays-ended : (clock : ℕ) (b : Board) → EndsFit clock b → clock < b.ended.until → EndsFit clock (board_ended clock b)
  stays-ended clock b fits early =
      let u = b.core.serial in
      record {
        apart = fits-of u.run clock u b.ended fits.apart fits.apart (omega (arith, fits.few));
        seat = (let same = (seats.ended clock u).count in omega (arith, same, fits.seat));
        few = fits.few;
      }

  stays-taken : (due : Incoming) (b : Board) → EndsFit due.arrival b → due.arrival < b.ended.until
      → EndsFit due.arrival (board_taken due b)
  stays-taken due b fits early =
      let here = stays-ended due.arrival b fits early in
      let mid = board_ended due.arrival b in
      let u = mid.core.serial in
      record {
        apart = apart-kept due.arrival (next_end u) (next_end (taken due u)) mid.ended.count mid.ended.base here.apart
            (λ bound soon before. apart.taken due bound u soon before);
        seat = (let same = (seats.taken due u).count in omega (arith, same, here.seat));
        few = here.few;
      }

  pub ends-stay-fit : EndsStayFit
  ends-stay-fit = record { later = stays-later; room = has-room; ended = stays-ended; taken = stays-taken }
