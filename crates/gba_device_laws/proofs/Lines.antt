-- What interrupts, keys and direct sound keep.
use Rattle.std.proofs.Common.{◌≡◌, ◌≢◌, ℕ, zero, suc, ◌^◌, ◌<◌, ◌-◌, ◌==◌, Bool, true, false, ◌&&◌, List, [], ◌∷◌, ◌++◌, drop, refl, ap, sym, ◌∙◌, arith, mod-eq_of_lt, if◌then◌else◌}
use Rattle.std.specs.Prelude.{bit_and, bit_or, slice_index_or}
use Rattle.std.proofs.lemmas.Bool.Decides.{nat_tests}
use Rattle.std.proofs.lemmas.List.{length-append, length-drop}
use Rattle.std.proofs.lemmas.Nat.{and_assoc, and_comm, and_mask, or_lt}
use Rattle.gba_terms.specs.Bytes.{AreBytes}
use Rattle.gba_register.specs.Rows.{row_at}
use Rattle.gba_irq.specs.Interrupts.{interrupt_rows, interrupt_shown, interrupt_set, interrupt_written, with_request_if, with_requests}
use Rattle.gba_irq.specs.Keypad.{Keys, keypad_rows, with_control, with_pressed}
use Rattle.gba_irq.specs.declared.interrupts.Interrupts.{Interrupts}
use Rattle.gba_sound.specs.Queue.{SoundQueue, after_push, after_take, bytes_of, empty_queue, has_room}
use Rattle.gba_sound.specs.Queues.{DirectSound, after_overflow, after_word, chose, is_reset_by, sound_at_reset, sound_rows, sound_shown, sound_written}
use Rattle.gba_device_laws.specs.Holding.{HasStoredBits, KeysHold, QueueHolds, SoundHolds}
use Rattle.gba_device_laws.proofs.Masks.{and-twice, at-place, nothing-stored}

-- the keys

pub keys-pressed : (pressed : ℕ) (k : Keys) → KeysHold k → KeysHold (with_pressed pressed k)
keys-pressed pressed k is = record { pressed = omega arith; control = is.control }

pub keys-control : (value : ℕ) (k : Keys) → KeysHold k → KeysHold (with_control value k)
keys-control value k is =
    record { pressed = is.pressed; control = and-twice value (row_at keypad_rows 0x132).write_mask }

-- the interrupts: IE and IF have fourteen bits
record AreRequests (i : Interrupts) : Type 0 where
  enabled : bit_and i.enabled 0x3fff ≡ i.enabled
  raised : bit_and i.raised 0x3fff ≡ i.raised

requests-stored : (i : Interrupts) → AreRequests i → HasStoredBits interrupt_rows (λ at. interrupt_shown at i)
unfolding interrupt_rows row_at
requests-stored i is at =
    let holds : ℕ → Type 0 =
    λ k. bit_and (interrupt_shown k i) (row_at interrupt_rows k).write_mask ≡ interrupt_shown k i in
    at-place holds 0x200 at is.enabled
    (λ no_enabled. at-place holds 0x202 at is.raised
    (λ no_raised. at-place holds 0x208 at (master i.master)
    (λ no_master. nothing-stored (interrupt_shown at i) (row_at interrupt_rows at).write_mask
    (grind (arith, nat_tests, no_enabled, no_raised, no_master)))))
  where
    master : (set : Bool) → bit_and (if set then 1 else 0) 1 ≡ (if set then 1 else 0)
    master true = refl
    master false = refl

are-requests : (i : Interrupts) → HasStoredBits interrupt_rows (λ at. interrupt_shown at i) → AreRequests i
unfolding interrupt_rows row_at
are-requests i stored = record { enabled = stored 0x200; raised = stored 0x202 }

-- requests of bits that there are
either-requests : (test : Bool) (i : Interrupts) (one other : ℕ) → AreRequests (record i { raised = one })
    → AreRequests (record i { raised = other }) → AreRequests (record i { raised = if test then one else other })
either-requests true i one other first second = first
either-requests false i one other first second = second

asked-more : (i : Interrupts) (mask : ℕ) → bit_and mask 0x3fff ≡ mask → AreRequests i
    → AreRequests (with_requests mask i)
asked-more i mask small is =
    let old : i.raised < 2 ^ 14 = omega (arith, is.raised, and_mask i.raised 14) in
    let more : mask < 2 ^ 14 = omega (arith, small, and_mask mask 14) in
    let both = or_lt 14 i.raised mask old more in
    record { enabled = is.enabled; raised = and_mask (bit_or i.raised mask) 14 ∙ mod-eq_of_lt both }

pub interrupts-requests : (mask : ℕ) (i : Interrupts) → bit_and mask 0x3fff ≡ mask
    → HasStoredBits interrupt_rows (λ at. interrupt_shown at i)
    → HasStoredBits interrupt_rows (λ at. interrupt_shown at (with_requests mask i))
interrupts-requests mask i small stored =
    requests-stored (with_requests mask i) (asked-more i mask small (are-requests i stored))

pub interrupts-request-if : (asked : Bool) (place : ℕ) (i : Interrupts) → bit_and (2 ^ place) 0x3fff ≡ 2 ^ place
    → HasStoredBits interrupt_rows (λ at. interrupt_shown at i)
    → HasStoredBits interrupt_rows (λ at. interrupt_shown at (with_request_if asked place i))
interrupts-request-if asked place i small stored =
    let is = are-requests i stored in
    requests-stored (with_request_if asked place i)
    (either-requests asked i (with_requests (2 ^ place) i).raised i.raised (asked-more i (2 ^ place) small is) is)

requests-write : (offset value : ℕ) (i : Interrupts) → AreRequests i → AreRequests (interrupt_written offset value i)
unfolding interrupt_rows row_at
requests-write offset value i is =
    at-place (λ k. AreRequests (interrupt_written k value i)) 0x200 offset
    (record { enabled = and-twice value 0x3fff; raised = is.raised })
    (λ no_enabled. at-place (λ k. AreRequests (interrupt_written k value i)) 0x202 offset
    (record { enabled = is.enabled; raised = and-kept i.raised (2 ^ 16 - 1 - bit_and value 0x3fff) 0x3fff is.raised })
    (λ no_raised. at-place (λ k. AreRequests (interrupt_written k value i)) 0x208 offset
    (record { enabled = is.enabled; raised = is.raised })
    (λ no_master. record {
      enabled =
          same-enabled offset (bit_and value (row_at interrupt_rows offset).write_mask) no_enabled no_raised no_master;
      raised =
          same-raised offset (bit_and value (row_at interrupt_rows offset).write_mask) no_enabled no_raised no_master;
    })))
  where
    and-kept : (a b m : ℕ) → bit_and a m ≡ a → bit_and (bit_and a b) m ≡ bit_and a b
    and-kept a b m small =
        and_assoc m a b ∙ ap (bit_and a) (and_comm b m) ∙ sym (and_assoc b a m) ∙ ap (λ n. bit_and n b) small

    same-enabled : (k v : ℕ) → k ≢ 0x200 → k ≢ 0x202 → k ≢ 0x208
        → bit_and (interrupt_set k v i).enabled 0x3fff ≡ (interrupt_set k v i).enabled
    same-enabled k v one two three = grind (arith, nat_tests, one, two, three, is.enabled)

    same-raised : (k v : ℕ) → k ≢ 0x200 → k ≢ 0x202 → k ≢ 0x208
        → bit_and (interrupt_set k v i).raised 0x3fff ≡ (interrupt_set k v i).raised
    same-raised k v one two three = grind (arith, nat_tests, one, two, three, is.raised)

pub interrupts-write : (offset value : ℕ) (i : Interrupts) → HasStoredBits interrupt_rows (λ at. interrupt_shown at i)
    → HasStoredBits interrupt_rows (λ at. interrupt_shown at (interrupt_written offset value i))
interrupts-write offset value i stored =
    requests-stored (interrupt_written offset value i) (requests-write offset value i (are-requests i stored))

-- the queues

bytes-taken : (bytes : List ℕ) → AreBytes bytes → AreBytes (drop 1 bytes)
bytes-taken [] all = all
bytes-taken (byte ∷ rest) all = λ at within. all (suc at) (omega (arith, within))

first-byte : (bytes : List ℕ) (other : ℕ) → AreBytes bytes → other < 2 ^ 8 → slice_index_or bytes 0 other < 2 ^ 8
first-byte [] other all small = small
first-byte (byte ∷ rest) other all small = all 0 (omega arith)

word-bytes : (word : ℕ) → AreBytes (bytes_of word)
word-bytes word zero within = omega arith
word-bytes word (suc zero) within = omega arith
word-bytes word (suc (suc zero)) within = omega arith
word-bytes word (suc (suc (suc zero))) within = omega arith
word-bytes word (suc (suc (suc (suc at)))) within = absurd (omega (arith, within))

bytes-more : (byte : ℕ) (rest : List ℕ) → byte < 2 ^ 8 → AreBytes rest → AreBytes (byte ∷ rest)
bytes-more byte rest small all zero within = small
bytes-more byte rest small all (suc at) within = all at (omega (arith, within))

pub bytes-append : (one other : List ℕ) → AreBytes one → AreBytes other → AreBytes (one ++ other)
bytes-append [] other first second = second
bytes-append (byte ∷ rest) other first second =
    bytes-more byte (rest ++ other) (first 0 (omega arith))
    (bytes-append rest other (λ k inside. first (suc k) (omega (arith, inside))) second)

queue-push : (word : ℕ) (q : SoundQueue) → QueueHolds q → QueueHolds (after_push word q)
queue-push word q is =
    by_room (has_room q) refl
  where
    by_room : (test : Bool) → has_room q ≡ test
        → QueueHolds (record q { bytes = if test then q.bytes ++ bytes_of word else q.bytes })
    by_room true room = record {
      few = rw (length-append q.bytes (bytes_of word)) (grind (arith, nat_tests, room));
      bytes = bytes-append q.bytes (bytes_of word) is.bytes (word-bytes word);
      current = is.current;
    }
    by_room false full = is

queue-take : (q : SoundQueue) → QueueHolds q → QueueHolds (after_take q)
queue-take q is = record {
  few = rw (length-drop 1 q.bytes) (omega (arith, is.few));
  bytes = bytes-taken q.bytes is.bytes;
  current = first-byte q.bytes q.current is.bytes is.current;
}

empty-holds : QueueHolds empty_queue
empty-holds = record { few = omega arith; bytes = λ at within. absurd (omega (arith, within)); current = omega arith }

either-queue : (test : Bool) (one other : SoundQueue) → QueueHolds one → QueueHolds other
    → QueueHolds (if test then one else other)
either-queue true one other first second = first
either-queue false one other first second = second

pub sound-word : (number word : ℕ) (s : DirectSound) → SoundHolds s → SoundHolds (after_word number word s)
sound-word number word s is = record {
  queue_a =
      either-queue (number == 0) (after_push word s.queue_a) s.queue_a (queue-push word s.queue_a is.queue_a)
      is.queue_a;
  queue_b =
      either-queue (number == 1) (after_push word s.queue_b) s.queue_b (queue-push word s.queue_b is.queue_b)
      is.queue_b;
  stored = is.stored;
}

pub sound-overflow : (timer : ℕ) (s : DirectSound) → SoundHolds s → SoundHolds (after_overflow timer s)
sound-overflow timer s is = record {
  queue_a =
      either-queue (chose timer 0 s) (after_take s.queue_a) s.queue_a (queue-take s.queue_a is.queue_a) is.queue_a;
  queue_b =
      either-queue (chose timer 1 s) (after_take s.queue_b) s.queue_b (queue-take s.queue_b is.queue_b) is.queue_b;
  stored = is.stored;
}

-- SOUNDCNT_H and SOUNDBIAS
record AreControls (s : DirectSound) : Type 0 where
  control : bit_and s.control 0x770f ≡ s.control
  bias : bit_and s.bias 0xc3fe ≡ s.bias

controls-stored : (s : DirectSound) → AreControls s → HasStoredBits sound_rows (λ at. sound_shown at s)
unfolding sound_rows row_at
controls-stored s is at =
    let holds : ℕ → Type 0 = λ k. bit_and (sound_shown k s) (row_at sound_rows k).write_mask ≡ sound_shown k s in
    at-place holds 0x082 at is.control
    (λ no_control. at-place holds 0x084 at (master s.is_on)
    (λ no_master. at-place holds 0x088 at is.bias
    (λ no_bias. nothing-stored (sound_shown at s) (row_at sound_rows at).write_mask
    (grind (arith, nat_tests, no_control, no_master, no_bias)))))
  where
    master : (set : Bool) → bit_and (if set then 0x80 else 0) 0x80 ≡ (if set then 0x80 else 0)
    master true = refl
    master false = refl

are-controls : (s : DirectSound) → HasStoredBits sound_rows (λ at. sound_shown at s) → AreControls s
unfolding sound_rows row_at
are-controls s stored = record { control = stored 0x082; bias = stored 0x088 }

either-masked : (test : Bool) (one other mask : ℕ) → bit_and one mask ≡ one → bit_and other mask ≡ other
    → bit_and (if test then one else other) mask ≡ (if test then one else other)
either-masked true one other mask first second = first
either-masked false one other mask first second = second

pub sound-write : (offset value : ℕ) (s : DirectSound) → SoundHolds s → SoundHolds (sound_written offset value s)
unfolding sound_rows row_at
sound-write offset value s is =
    let controls = are-controls s is.stored in
    record {
      queue_a = either-queue ((offset == 0x082) && is_reset_by value 0) empty_queue s.queue_a empty-holds is.queue_a;
      queue_b = either-queue ((offset == 0x082) && is_reset_by value 1) empty_queue s.queue_b empty-holds is.queue_b;
      stored = controls-stored (sound_written offset value s) (record {
        control =
            either-masked (offset == 0x082) (bit_and value 0x770f) s.control 0x770f (and-twice value 0x770f)
            controls.control;
        bias =
            either-masked (offset == 0x088) (bit_and value 0xc3fe) s.bias 0xc3fe (and-twice value 0xc3fe) controls.bias;
      });
    }

pub sound-reset : SoundHolds sound_at_reset
sound-reset = record {
  queue_a = empty-holds;
  queue_b = empty-holds;
  stored = controls-stored sound_at_reset (record { control = refl; bias = refl });
}

pub interrupts-reset : HasStoredBits interrupt_rows
    (λ at. interrupt_shown at (record { enabled = 0; raised = 0; master = false }))
interrupts-reset =
    requests-stored (record { enabled = 0; raised = 0; master = false }) (record { enabled = refl; raised = refl })
