-- What a step resets isn't seen in the bytes of the I/O registers.
use Rattle.std.proofs.Common.{◌≡◌, ℕ, zero, suc, ◌*◌, ◌/◌, ◌%◌, ◌^◌, ◌∙◌, ap, Bool, true, false, ◌&&◌, ◌==◌, nat_le, nat_lt, [], ◌∷◌, ◌++◌, if◌then◌else◌, refl}
use Rattle.gba_devices.specs.Registers.{half_listed, owner_of, listed_of}
use Rattle.gba_devices.specs.State.{Devices, begun}
use Rattle.gba_io.specs.Core.{Core, core_half_listed}
use Rattle.gba_io.specs.SerialRegisters.{is_serial}
use Rattle.gba_serial.specs.Registers.{serial_listed}
use Rattle.gba_serial.specs.Tell.{silent}
use Rattle.gba_snapshot.specs.Io.{io_bytes}

either : {A : Type 0} (test : Bool) (one other : A) (f g : A → ℕ) → f one ≡ g one → f other ≡ g other
    → f (if test then one else other) ≡ g (if test then one else other)
either true one other f g p q = p
either false one other f g p q = q

-- by whose halfword it is
stored-unseen : (offset : ℕ) (d : Devices)
    → listed_of (owner_of offset) offset (begun d) ≡ listed_of (owner_of offset) offset d
unfolding owner_of
stored-unseen offset d =
    either (nat_lt offset 0x056) _ _ (λ owner. listed_of owner offset (begun d)) (λ owner. listed_of owner offset d)
    refl
    (either (nat_le 0x060 offset && nat_lt offset 0x082) _ _ (λ owner. listed_of owner offset (begun d))
    (λ owner. listed_of owner offset d) refl
    (either (nat_le 0x082 offset && nat_lt offset 0x08a) _ _ (λ owner. listed_of owner offset (begun d))
    (λ owner. listed_of owner offset d) refl
    (either (nat_le 0x090 offset && nat_lt offset 0x0a0) _ _ (λ owner. listed_of owner offset (begun d))
    (λ owner. listed_of owner offset d) refl
    (either (nat_le 0x0b0 offset && nat_lt offset 0x0e0) _ _ (λ owner. listed_of owner offset (begun d))
    (λ owner. listed_of owner offset d) refl
    (either (nat_le 0x100 offset && nat_lt offset 0x110) _ _ (λ owner. listed_of owner offset (begun d))
    (λ owner. listed_of owner offset d) refl
    (either (nat_le 0x130 offset && nat_lt offset 0x134) _ _ (λ owner. listed_of owner offset (begun d))
    (λ owner. listed_of owner offset d) refl
    (either (offset == 0x204) _ _ (λ owner. listed_of owner offset (begun d)) (λ owner. listed_of owner offset d) refl
    (either (nat_le 0x200 offset && nat_lt offset 0x20a) _ _ (λ owner. listed_of owner offset (begun d))
    (λ owner. listed_of owner offset d) refl
    (either (offset == 0x300) _ _ (λ owner. listed_of owner offset (begun d)) (λ owner. listed_of owner offset d) refl
    refl)))))))))

half-begun : (offset : ℕ) (d : Devices) → half_listed offset (begun d) ≡ half_listed offset d
unfolding half_listed
half-begun offset d = ap (λ (v : ℕ). v % 2 ^ 16) (stored-unseen offset d)

-- the same core but for what a step resets, its memories and its lines
pub record IsAlike (b c : Core) : Type 0 where
  pub devices : c.devices ≡ begun b.devices
  pub serial : c.serial ≡ silent b.serial

half-unseen : (offset : ℕ) (b c : Core) → IsAlike b c → core_half_listed offset c ≡ core_half_listed offset b
unfolding core_half_listed
half-unseen offset b c alike =
    (λ i. if is_serial offset then serial_listed offset (alike.serial i) else half_listed offset (alike.devices i))
    ∙ (λ i. if is_serial offset then serial_listed offset b.serial else half-begun offset b.devices i)

pub io-unseen : (halves : ℕ) (b c : Core) → IsAlike b c → io_bytes halves c ≡ io_bytes halves b
unfolding io_bytes
io-unseen zero b c alike = refl
io-unseen (suc halves) b c alike =
    let before = io-unseen halves b c alike in
    let half = half-unseen (2 * halves) b c alike in
    λ i. before i ++ (half i % 256 ∷ half i / 256 ∷ [])
