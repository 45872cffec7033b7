-- The consoles of a job at their reset.
use Rattle.std.proofs.Common.{◌≡◌, ℕ, zero, suc, ◌+◌, ◌<◌, ◌≤◌, List, [], ◌∷◌, length, Some, subst, arith}
use Rattle.std.specs.List.{AllZip}
use Rattle.std.specs.Prelude.{All, IfSome, Option, slice_get}
use Rattle.std.proofs.lemmas.List.{length-map}
use Rattle.std.proofs.lemmas.List.Elements.{All-head, All-tail}
use Rattle.gba_terms.specs.Bytes.{AreBytes}
use Rattle.gba_console.specs.Machine.{Machine, without_limit}
use Rattle.gba_device_laws.specs.Holding.{HasBytes}
use Rattle.gba_freeze_laws.specs.Reached.{HasSavedBytes}
use Rattle.gba_image.specs.Backups.{backup_length}
use Rattle.gba_image.specs.declared.backup.Backup.{Backup}
use Rattle.gba_image.specs.declared.images.ConsoleImages.{ConsoleImages}
use Rattle.gba_joblog.specs.Job.{ConsoleJob, WholeJob}
use Rattle.gba_joblog.specs.Soundness.{IsConsole, IsJob}
use Rattle.gba_run_laws.specs.Holding.{Holds, StepsHold}
use Rattle.gba_session.specs.Start.{FitsConsole, console_at, consoles_from, key_state, key_states, room_of, round_of}
use Rattle.link_node.proofs.DelayLaws.{hop_within}

-- the end of a console's room, and where its lists begin, are in no rule
holds-unlimited : (m : Machine) → Holds m → Holds (without_limit m)
holds-unlimited m is = record {
  registers = is.registers;
  memories = is.memories;
  backup = is.backup;
  devices = is.devices;
  serial = is.serial;
  lines = is.lines;
  counts = record {
    made = record {
      sound = is.counts.made.sound;
      drawn = is.counts.made.drawn;
      bytes = is.counts.made.bytes;
      frames = is.counts.made.frames;
      samples = is.counts.made.samples;
    };
    ended = is.counts.ended;
  };
  changes = record { within = is.changes.within; due = is.changes.due; pressed = is.changes.pressed };
  numbers = record {
    frames = is.numbers.frames;
    pairs = is.numbers.pairs;
    past = is.numbers.past;
    next = is.numbers.next;
  };
  begun = is.begun;
  short = is.short;
  on = is.on;
}

saved-has : (save : Option (List ℕ)) (backup : Backup) → IfSome save (λ bytes. length bytes ≡ backup_length backup)
    → IfSome save AreBytes → (bytes : List ℕ) → save ≡ Some bytes → HasBytes (backup_length backup) bytes
saved-has save backup long are bytes is = record {
  long = subst (λ (s : Option (List ℕ)). IfSome s (λ content. length content ≡ backup_length backup)) is long;
  bytes = subst (λ (s : Option (List ℕ)). IfSome s AreBytes) is are;
}

-- a console at its reset keeps to the rules, and has few changes of its keys
pub record Begins (m : Machine) : Type 0 where
  pub holds : Holds m
  pub few : length m.keys ≤ 1000000

module _ (steps : StepsHold) (job : WholeJob) (is : IsJob job) where
  round-short : round_of job ≤ 2048
  round-short =
      let there = hop_within job.delays is.delays.within 0 1 in
      let back = hop_within job.delays is.delays.within 1 0 in
      omega (arith, there, back)

  begins-at : (player : ℕ) (c : ConsoleJob) (one : ConsoleImages) → player < length job.consoles → IsConsole c
      → FitsConsole c one → HasSavedBytes one → Begins (without_limit (console_at job player c one))
  begins-at player c one seated fine fits saved =
      let few = fine.lines.changes.few in
      let many = length-map c.changes key_state in
      record {
        holds =
            holds-unlimited (console_at job player c one)
            (steps.begins player (length job.consoles) (round_of job) c.off one.bios one.cart one.save one.backup
            (key_states c.changes)
            (room_of job c) seated is.few_consoles round-short (saved-has one.save one.backup fits.save saved));
        few = omega (arith, few, many);
      }

  -- each of them
  pub all-begin : (player : ℕ) (consoles : List ConsoleJob) (images : List ConsoleImages) (k : ℕ) (m : Machine)
      → player + length consoles ≡ length job.consoles → All IsConsole consoles → AllZip FitsConsole consoles images
      → All HasSavedBytes images → slice_get (consoles_from job player consoles images) k ≡ Some m → Begins m
  unfolding consoles_from
  all-begin player [] images k m many fine fits saved there = absurd cc
  all-begin player (c ∷ consoles) [] k m many fine fits saved there = absurd fits
  all-begin player (c ∷ consoles) (one ∷ images) zero m many fine fits saved there =
      subst Begins (same (without_limit (console_at job player c one)) m there)
      (begins-at player c one (omega (arith, many)) (All-head IsConsole c consoles fine) fits.0
      (All-head HasSavedBytes one images saved))
    where
      same : (x y : Machine) → Some x ≡ Some y → x ≡ y
      same x y is = cc
  all-begin player (c ∷ consoles) (one ∷ images) (suc k) m many fine fits saved there =
      all-begin (player + 1) consoles images k m (omega (arith, many)) (All-tail IsConsole c consoles fine) fits.1
      (All-tail HasSavedBytes one images saved) there
