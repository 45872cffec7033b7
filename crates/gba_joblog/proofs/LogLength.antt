-- A log isn't longer than a job may be.
use Rattle.std.proofs.Common.{ℕ, ◌+◌, ◌*◌, ◌<◌, ◌≤◌, ◌^◌, ◌==◌, Bool, true, false, cond, List, [], ◌∷◌, ◌++◌, length, Option, Some, None, lit<, lit≤, arith}
use Rattle.std.specs.Prelude.{IfSome, codes, decimal}
use Rattle.std.specs.List.{All, flat_map}
use Rattle.std.proofs.lemmas.List.{length-append}
use Rattle.std.proofs.lemmas.List.Elements.{All-head, All-tail}
use Rattle.hex.specs.Hex.{encode_lower}
use Rattle.gba_image.specs.declared.backup.Backup.{Backup}
use Rattle.gba_image.specs.declared.backup.Backup.TheVariants.{Sram, Flash64, Flash128}
use Rattle.link_node.specs.Delays.{hop_of, AreDelays}
use Rattle.link_node.specs.declared.delays.Delays.{Delays}
use Rattle.gba_joblog.specs.Cable.{all_pairs, is_joined, players_for}
use Rattle.gba_joblog.specs.Digests.{IsDigest}
use Rattle.gba_joblog.specs.Job.{ConsoleJob, NamedFile, WholeJob}
use Rattle.gba_joblog.specs.Language.{longest_job}
use Rattle.gba_joblog.specs.Log.{after_words, any_file_text, asked_text, backup_text, change_text, changes_text, console_text, consoles_text, digest_words, file_text, files_text, keys_word, line_of, link_text, links_text, log_text, off_text, out_text, outs_text}
use Rattle.gba_joblog.specs.Outputs.{all_kinds, out_name}
use Rattle.gba_joblog.specs.Soundness.{IsChange, IsConsole, IsFile, IsJob, IsOutput}
use Rattle.gba_joblog.specs.Statements.{output_of}
use Rattle.gba_joblog.specs.declared.cable.Pair.{Pair}
use Rattle.gba_joblog.specs.declared.job.KeyChange.{KeyChange}
use Rattle.gba_joblog.specs.declared.job.OutLine.{OutLine}
use Rattle.gba_joblog.specs.declared.outputs.OutKind.{OutKind}
use Rattle.gba_joblog.proofs.NameTexts.{name-short}
use Rattle.gba_joblog.proofs.SpelledValues.{decimal-short, digits-long, out-short}

digest-short : (stated : Option (List ℕ)) → IfSome stated IsDigest → length (after_words (digest_words stated)) ≤ 73
digest-short None is = lit≤ tt
digest-short (Some digest) is =
    omega (arith, length-append (encode_lower digest) (codes "\n"), digits-long digest is)

number-short : (front : List ℕ) (n : ℕ) → length front ≤ 8 → n < 2 ^ 64 → length (line_of front (decimal n ∷ [])) ≤ 30
number-short front n short small =
    omega (
      arith,
      length-append front (32 ∷ (decimal n ++ codes "\n")),
      length-append (decimal n) (codes "\n"),
      decimal-short n small,
    )

file-short : (front : List ℕ) (file : NamedFile) → length front ≤ 8 → IsFile file → length (file_text front file) ≤ 282
file-short front file short is =
    let after = after_words (digest_words file.digest) in
    omega (
      arith,
      length-append front (32 ∷ (file.name ++ after)),
      length-append file.name after,
      name-short file.name is.named,
      digest-short file.digest is.stated,
    )

any-file_short : (front : List ℕ) (file : Option NamedFile) → length front ≤ 8 → IfSome file IsFile
    → length (any_file_text front file) ≤ 282
any-file_short front None short is = omega arith
any-file_short front (Some file) short is = file-short front file short is

change-short : (change : KeyChange) → IsChange change → length (change_text change) ≤ 29
change-short change is =
    omega (
      arith,
      length-append (decimal change.clock) (32 ∷ (keys_word change.keys ++ codes "\n")),
      decimal-short change.clock (omega (arith, is.early)),
    )

changes-short : (changes : List KeyChange) → All IsChange changes → length (changes_text changes) ≤ 29 * length changes
unfolding changes_text
changes-short [] sound = lit≤ tt
changes-short (change ∷ changes) sound =
    omega (
      arith,
      length-append (change_text change) (changes_text changes),
      change-short change (All-head IsChange change changes sound),
      changes-short changes (All-tail IsChange change changes sound),
    )

asked-short : (name : List ℕ) (asked : Option OutLine) → length name ≤ 7 → IsOutput asked
    → length (asked_text name asked) ≤ 84
asked-short name None short is = omega arith
asked-short name (Some asked) short is =
    omega (arith, length-append name (after_words (digest_words asked.digest)), digest-short asked.digest is)

out-text_short : (console : ConsoleJob) (out : OutKind) → IsConsole console → length (out_text console out) ≤ 84
out-text_short console out sound =
    asked-short (out_name out) (output_of console out) (out-short out) (sound.lines.outs out)

kinds-short : (console : ConsoleJob) (kinds : List OutKind) → IsConsole console
    → length (flat_map (out_text console) kinds) ≤ 84 * length kinds
kinds-short console [] sound = omega arith
kinds-short console (kind ∷ kinds) sound =
    omega (
      arith,
      length-append (out_text console kind) (flat_map (out_text console) kinds),
      out-text_short console kind sound,
      kinds-short console kinds sound,
    )

outs-short : (console : ConsoleJob) → IsConsole console → length (outs_text console) ≤ 420
outs-short console sound = kinds-short console all_kinds sound

files-short : (console : ConsoleJob) → IsConsole console → length (files_text console) ≤ 846
files-short console sound =
    let a = file_text (codes "bios") console.bios in
    let b = any_file_text (codes "cart") console.cart in
    let c = any_file_text (codes "save") console.save in
    omega (
      arith,
      length-append a (b ++ c),
      length-append b c,
      file-short (codes "bios") console.bios (lit≤ tt) sound.bios,
      any-file_short (codes "cart") console.cart (lit≤ tt) sound.lines.cart,
      any-file_short (codes "save") console.save (lit≤ tt) sound.lines.save,
    )

off-short : (off : ℕ) → off < 2 ^ 64 → length (off_text off) ≤ 30
off-short off small = by_test (off == 0) where
  by_test : (b : Bool) → length (cond b [] (line_of (codes "off") (decimal off ∷ []))) ≤ 30
  by_test true = omega arith
  by_test false = number-short (codes "off") off (lit≤ tt) small

backup-text_short : (backup : Backup) → length (backup_text backup) ≤ 16
backup-text_short Sram = lit≤ tt
backup-text_short Flash64 = lit≤ tt
backup-text_short Flash128 = lit≤ tt

console-short : (player : ℕ) (console : ConsoleJob) → player < 2 ^ 64 → IsConsole console
    → length (console_text player console) ≤ 29001342
unfolding console_text
console-short player console small sound =
    let a = line_of (codes "console") (decimal player ∷ []) in
    let b = files_text console in
    let k = backup_text console.backup in
    let o = off_text console.off in
    let c = changes_text console.changes in
    let d = outs_text console in
    omega (
      arith,
      length-append a (b ++ (k ++ (o ++ (c ++ d)))),
      length-append b (k ++ (o ++ (c ++ d))),
      length-append k (o ++ (c ++ d)),
      length-append o (c ++ d),
      length-append c d,
      backup-text_short console.backup,
      off-short console.off (omega (arith, sound.off)),
      number-short (codes "console") player (lit≤ tt) small,
      files-short console sound,
      changes-short console.changes sound.lines.changes.each,
      sound.lines.changes.few,
      outs-short console sound,
    )

consoles-short : (player : ℕ) (consoles : List ConsoleJob) → player + length consoles ≤ 4 → All IsConsole consoles
    → length (consoles_text player consoles) ≤ 29001342 * length consoles
unfolding consoles_text
consoles-short player [] few sound = lit≤ tt
consoles-short player (console ∷ consoles) few sound =
    let first = All-head IsConsole console consoles sound in
    omega (
      arith,
      length-append (console_text player console) (consoles_text (player + 1) consoles),
      console-short player console (omega arith) first,
      consoles-short (player + 1) consoles (omega arith) (All-tail IsConsole console consoles sound),
    )

link-short : (players : ℕ) (delays : Delays) (pair : Pair) → AreDelays delays → pair.sender < 4 → pair.receiver < 4
    → length (link_text players delays pair) ≤ 68
link-short players delays pair are from to = by_test (is_joined players pair) where
  line : List ℕ
  line = line_of (codes "link")
      (decimal pair.sender ∷ decimal pair.receiver ∷ decimal (hop_of delays pair.sender pair.receiver) ∷ [])

  by_test : (b : Bool) → length (cond b line []) ≤ 68
  by_test true =
      let delay = hop_of delays pair.sender pair.receiver in
      let last = decimal delay ++ codes "\n" in
      let second = decimal pair.receiver ++ (32 ∷ last) in
      omega (
        arith,
        length-append (decimal pair.sender) (32 ∷ second),
        length-append (decimal pair.receiver) (32 ∷ last),
        length-append (decimal delay) (codes "\n"),
        decimal-short pair.sender (omega (arith, from)),
        decimal-short pair.receiver (omega (arith, to)),
        decimal-short delay (omega (arith, (are pair.sender pair.receiver from to).1)),
      )
  by_test false = omega arith

-- two players of four
abbrev pub AreFour : List Pair → Type 0
AreFour [] = Unit {0}
AreFour (pair ∷ pairs) = ((pair.sender < 4) × (pair.receiver < 4)) × AreFour pairs

pub all-four : AreFour all_pairs
all-four = (
  (lit< tt, lit< tt),
  (
    (lit< tt, lit< tt),
    (
      (lit< tt, lit< tt),
      (
        (lit< tt, lit< tt),
        (
          (lit< tt, lit< tt),
          (
            (lit< tt, lit< tt),
            (
              (lit< tt, lit< tt),
              (
                (lit< tt, lit< tt),
                (
                  (lit< tt, lit< tt),
                  (
                    (lit< tt, lit< tt),
                    ((lit< tt, lit< tt), ((lit< tt, lit< tt), tt)),
                  ),
                ),
              ),
            ),
          ),
        ),
      ),
    ),
  ),
)

pairs-short : (players : ℕ) (delays : Delays) (pairs : List Pair) → AreDelays delays → AreFour pairs
    → length (flat_map (link_text players delays) pairs) ≤ 68 * length pairs
pairs-short players delays [] are four = omega arith
pairs-short players delays (pair ∷ pairs) are four =
    omega (
      arith,
      length-append (link_text players delays pair) (flat_map (link_text players delays) pairs),
      link-short players delays pair are four.0.0 four.0.1,
      pairs-short players delays pairs are four.1,
    )

links-short : (players : ℕ) (delays : Delays) → AreDelays delays → length (links_text players delays) ≤ 816
unfolding links_text
links-short players delays are = pairs-short players delays all_pairs are all-four

pub log-short : (job : WholeJob) → IsJob job → length (log_text job) ≤ longest_job
unfolding log_text
log-short job sound =
    let a = line_of (codes "cycles") (decimal job.cycles ∷ []) in
    let b = links_text (players_for (length job.consoles)) job.delays in
    let c = consoles_text 0 job.consoles in
    omega (
      arith,
      length-append a (b ++ (c ++ codes "end\n")),
      length-append b (c ++ codes "end\n"),
      length-append c (codes "end\n"),
      number-short (codes "cycles") job.cycles (lit≤ tt) (omega (arith, sound.few_cycles)),
      links-short (players_for (length job.consoles)) job.delays sound.delays.within,
      consoles-short 0 job.consoles (omega (arith, sound.few_consoles)) sound.each,
      sound.few_consoles,
    )

-- a job of version 1 with this delay for all pairs, spelled as a log is
abbrev pub old_text : ℕ → ℕ → List ConsoleJob → List ℕ
old_text cycles delay consoles =
    line_of (codes "gbalink") (codes "1" ∷ []) ++ (line_of (codes "cycles") (decimal cycles ∷ [])
    ++ (line_of (codes "delay") (decimal delay ∷ []) ++ (consoles_text 0 consoles ++ line_of (codes "end") [])))

pub old-short : (cycles delay : ℕ) (consoles : List ConsoleJob) → cycles ≤ 2 ^ 31 → delay ≤ 1024 → length consoles ≤ 4
    → All IsConsole consoles → length (old_text cycles delay consoles) ≤ longest_job
old-short cycles delay consoles high most few sound =
    let a = line_of (codes "cycles") (decimal cycles ∷ []) in
    let b = line_of (codes "delay") (decimal delay ∷ []) in
    let c = consoles_text 0 consoles in
    omega (
      arith,
      length-append a (b ++ (c ++ codes "end\n")),
      length-append b (c ++ codes "end\n"),
      length-append c (codes "end\n"),
      number-short (codes "cycles") cycles (lit≤ tt) (omega (arith, high)),
      number-short (codes "delay") delay (lit≤ tt) (omega (arith, most)),
      consoles-short 0 consoles (omega (arith, few)) sound,
      few,
    )
