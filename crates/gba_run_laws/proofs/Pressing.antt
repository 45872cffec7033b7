-- Which keys are pressed.
use Rattle.std.proofs.Common.{ℕ, ◌≡◌, ◌<◌, ◌+◌, ◌/◌, ◌%◌, ◌^◌, ◌==◌, zero, suc, Bool, true, false, List, [], ◌∷◌, drop, refl, ap, ◌∙◌, arith, if◌then◌else◌}
use Rattle.std.specs.Prelude.{Option, None, Some, nat_le}
use Rattle.std.proofs.lemmas.List.{get_or-drop}
use Rattle.gba_bus.specs.Regions.{is_io, region_of}
use Rattle.gba_bus.specs.declared.width.Width.{Width}
use Rattle.gba_devices.proofs.Writing.{each-half}
use Rattle.gba_devices.specs.Cycles.{after_cycles, at_hblank, at_line, at_place, device_cycle, placed, rung, sounded}
use Rattle.gba_devices.specs.Registers.{half_kept, half_written, io_written, keyed, queue_of, written_in, with_key_control}
use Rattle.gba_devices.specs.State.{Devices, after_dma_unit}
use Rattle.gba_io.specs.Bus.{core_written, io_offset, register_written}
use Rattle.gba_io.specs.Cable.{board_taken}
use Rattle.gba_io.specs.Core.{Core, core_keyed, core_learned}
use Rattle.gba_io.specs.SerialRegisters.{is_serial}
use Rattle.gba_io.specs.Units.{unit_ended}
use Rattle.gba_io.specs.declared.board.Board.{Board}
use Rattle.gba_register.proofs.Accesses.{written-keeps}
use Rattle.gba_register.specs.Accesses.{merged}
use Rattle.link_node.specs.declared.signal.Incoming.{Incoming}
use Rattle.gba_console.specs.Keys.{after_keys, due_count}
use Rattle.gba_console.specs.declared.keys.KeyState.{KeyState}
use Rattle.gba_run_laws.specs.Holding.{keys_after}
use Rattle.gba_run_laws.proofs.Acting.{acted-keeps}
use Rattle.gba_console.specs.Step.{acted, all_learned, all_taken}

-- ---- what leaves them

abbrev pub SameKeys : ℕ → Devices → Type 0
SameKeys pressed d = d.keys.pressed ≡ pressed

either-same : (pressed : ℕ) (test : Bool) (one other : Devices) → SameKeys pressed one → SameKeys pressed other
    → SameKeys pressed (if test then one else other)
either-same pressed true one other here there = here
either-same pressed false one other here there = there

half-same : (pressed offset value lanes : ℕ) (d : Devices) → SameKeys pressed d
    → SameKeys pressed (half_written offset value lanes d)
half-same pressed offset value lanes d same =
    each-half (SameKeys pressed) offset lanes d (λ v. same) (λ v. same) (λ v. same) (λ v. same) (λ v. same)
    (λ v. either-same pressed (offset == 0x132) (with_key_control v d) d same same) (λ v. same) (λ v. same)
    (λ v. same) same (merged (half_kept offset d) value lanes)

into-same : (pressed : ℕ) (queue : Option ℕ) (offset : ℕ) (width : Width) (value : ℕ) (d : Devices) → SameKeys pressed d
    → SameKeys pressed (written_in queue offset width value d)
into-same pressed (Some queue) offset width value d same = same
into-same pressed None offset width value d same =
    written-keeps (SameKeys pressed) half_written (half-same pressed) offset width value d same

io-same : (pressed offset : ℕ) (width : Width) (value : ℕ) (d : Devices) → SameKeys pressed d
    → SameKeys pressed (io_written offset width value d)
io-same pressed offset width value d same = into-same pressed (queue_of offset width) offset width value d same

place-same : (d : Devices) → (at_place d).keys ≡ d.keys
unfolding at_place at_hblank at_line
place-same d = by_place _ _
  where
    by_place : (one two : Bool) → (if one then at_hblank d else if two then at_line d else d).keys ≡ d.keys
    by_place true two = refl
    by_place false true = refl
    by_place false false = refl

cycle-same : (d : Devices) → (device_cycle d).keys ≡ d.keys
unfolding device_cycle sounded rung
cycle-same d = place-same (placed (sounded d))

pub cycles-same : (count : ℕ) (d : Devices) → (after_cycles count d).keys ≡ d.keys
unfolding after_cycles
cycles-same zero d = refl
cycles-same (suc count) d = cycle-same (after_cycles count d) ∙ cycles-same count d

module _ (pressed : ℕ) where
  abbrev pub Keeps : Core → Type 0
  Keeps b = SameKeys pressed b.devices

  either-core : (test : Bool) (one other : Core) → Keeps one → Keeps other → Keeps (if test then one else other)
  either-core true one other here there = here
  either-core false one other here there = there

  register-same : (offset : ℕ) (width : Width) (value : ℕ) (b : Core) → Keeps b
      → Keeps (register_written offset width value b)
  unfolding register_written
  register-same offset width value b same =
      either-core (is_serial offset) _ _ same (io-same pressed offset width value b.devices same)

  written-same : (b : Core) (address : ℕ) (width : Width) (value : ℕ) → Keeps b
      → Keeps (core_written b address width value)
  unfolding core_written
  written-same b address width value same =
      either-core (is_io (region_of address)) _ _ (register-same (io_offset address) width value b same) same

  unit-same : (channel : ℕ) (b : Core) → channel < 4 → Keeps b → Keeps (unit_ended channel b)
  unfolding after_dma_unit
  unit-same channel b few same = same

  pub acted-keys : (file : List ℕ) (b : Core) → Keeps b → Keeps (acted file b).bus
  acted-keys = acted-keeps Keeps written-same (λ b same. same) unit-same

pub taken-keys : (dues : List Incoming) (b : Board) → (all_taken dues b).core.devices.keys ≡ b.core.devices.keys
taken-keys [] b = refl
taken-keys (due ∷ dues) b = taken-keys dues (board_taken due b)

pub learned-keys : (dues : List Incoming) (b : Core) → (all_learned dues b).devices.keys ≡ b.devices.keys
learned-keys [] b = refl
learned-keys (due ∷ dues) b = learned-keys dues (core_learned due b)

-- ---- the changes

behind-more : (count : ℕ) (change : KeyState) (changes : List KeyState) (before : ℕ)
    → keys_after count changes (change.keys % 2 ^ 10) ≡ keys_after (suc count) (change ∷ changes) before
behind-more zero change changes before = refl
behind-more (suc count) change changes before = refl

pub keys-behind : (clock : ℕ) (changes : List KeyState) (b : Core)
    → (after_keys clock changes b).devices.keys.pressed
    ≡ keys_after (due_count clock changes) changes b.devices.keys.pressed
unfolding after_keys due_count keyed
keys-behind clock [] b = refl
keys-behind clock (change ∷ changes) b =
    by_due (nat_le change.clock clock) (keys-behind clock changes (core_keyed change.keys b))
  where
    cut : change.keys / 2 ^ 0 % 2 ^ 10 ≡ change.keys % 2 ^ 10
    cut = omega arith

    one-more : (n : ℕ) → suc n ≡ 1 + n
    one-more n = omega arith

    by_due : (test : Bool)
        → (after_keys clock changes (core_keyed change.keys b)).devices.keys.pressed
        ≡ keys_after (due_count clock changes) changes (core_keyed change.keys b).devices.keys.pressed
        → (if test then after_keys clock changes (core_keyed change.keys b) else b).devices.keys.pressed
        ≡ keys_after (if test then 1 + due_count clock changes else 0) (change ∷ changes) b.devices.keys.pressed
    by_due true rest =
        rest ∙ ap (keys_after (due_count clock changes) changes) cut
        ∙ behind-more (due_count clock changes) change changes b.devices.keys.pressed
        ∙ ap (λ n. keys_after n (change ∷ changes) b.devices.keys.pressed) (one-more (due_count clock changes))
    by_due false rest = refl

-- those that are pressed once so many changes of all are applied, and so many more
pub behind-drop : (applied more : ℕ) (changes : List KeyState) (at_first : ℕ)
    → keys_after more (drop applied changes) (keys_after applied changes at_first)
    ≡ keys_after (applied + more) changes at_first
behind-drop applied zero changes at_first = ap (λ n. keys_after n changes at_first) (none applied)
  where
    none : (n : ℕ) → n ≡ n + 0
    none n = omega arith
behind-drop applied (suc more) changes at_first =
    ap (λ k. k.keys % 2 ^ 10) (get_or-drop applied changes more (record { clock = 0; keys = 0 }))
    ∙ ap (λ n. keys_after n changes at_first) (next applied more)
  where
    next : (n k : ℕ) → suc (n + k) ≡ n + suc k
    next n k = omega arith
