-- The lines of one console of a log.
use Rattle.std.proofs.Common.{◌≡◌, ℕ, zero, suc, ◌+◌, ◌-◌, ◌<◌, ◌≤◌, ◌^◌, ◌==◌, Bool, true, false, List, [], ◌∷◌, ◌++◌, length, nat_le, nat_lt, Option, Some, None, Ok, refl, ap, subst, lit≤, arith}
use Rattle.std.specs.Prelude.{IfSome, codes, decimal, is_some, option_map}
use Rattle.std.specs.List.{flat_map}
use Rattle.std.proofs.Math.Seq.{get_or-append_seam}
use Rattle.std.proofs.lemmas.Bool.{le-leb, lt-ltb}
use Rattle.std.proofs.lemmas.Bool.Decides.{nat_tests}
use Rattle.std.proofs.lemmas.List.{append-nil, append_assoc, get_or_append_left, length-append}
use Rattle.gba_image.specs.declared.backup.Backup.{Backup}
use Rattle.gba_image.specs.declared.backup.Backup.TheVariants.{Sram, Flash64, Flash128}
use Rattle.gba_joblog.specs.Backups.{backup_or_sram, backup_word}
use Rattle.gba_joblog.specs.Changes.{change_at, least_clock, most_changes}
use Rattle.gba_joblog.specs.Digests.{IsDigest}
use Rattle.gba_joblog.specs.Draft.{DraftConsole}
use Rattle.gba_joblog.specs.Lines.{is_comment}
use Rattle.gba_joblog.specs.Job.{ConsoleJob, NamedFile}
use Rattle.gba_joblog.specs.Language.{words_say}
use Rattle.gba_joblog.specs.Log.{any_file_text, asked_text, backup_text, change_text, changes_text, digest_words, file_text, files_text, keys_word, line_of, off_text, out_text, outs_text}
use Rattle.gba_joblog.specs.LogLaw.{unlined_console, unlined_file, without_key_file}
use Rattle.gba_joblog.specs.Names.{is_name}
use Rattle.gba_joblog.specs.Outputs.{all_kinds, at_kind, out_name, per_kind, with_kind}
use Rattle.gba_joblog.specs.Soundness.{AreChanges, IsChange, IsConsole, IsFile, IsOutput}
use Rattle.gba_joblog.specs.Statements.{File, Key, KeepsIn, Off, Out, arguments, file_refusal, is_two, keyword_of, named_file, plus_statement, refusal_at, with_file, with_output}
use Rattle.gba_joblog.specs.declared.draft.JobVersion.{JobVersion}
use Rattle.gba_joblog.specs.declared.job.FileKind.{FileKind}
use Rattle.gba_joblog.specs.declared.job.FileKind.TheVariants as file
use Rattle.gba_joblog.specs.declared.job.KeyChange.{KeyChange}
use Rattle.gba_joblog.specs.declared.job.OutLine.{OutLine}
use Rattle.gba_joblog.specs.declared.outputs.OutKind.{OutKind}
use Rattle.gba_joblog.specs.declared.outputs.OutKind.TheVariants.{Frames, Samples, State, Save}
use Rattle.gba_joblog.specs.declared.outputs.OutKind.TheVariants as output
use Rattle.gba_joblog.specs.declared.outputs.PerKind.{PerKind}
use Rattle.gba_joblog.proofs.EachKind.{all_with}
use Rattle.gba_joblog.proofs.LogLines.{Reads, Top, inside, line-reads, number-line, reads-nothing, reads-then, stated-line}
use Rattle.gba_joblog.proofs.NameTexts.{name-short}
use Rattle.gba_joblog.proofs.SoundChanges.{last-least}
use Rattle.gba_joblog.proofs.Spelling.{IsLine, IsWord, are_more, are_none, spaced}
use Rattle.gba_joblog.proofs.SpelledValues.{IsWord-backup, IsWord-decimal, IsWord-keys, IsWord-name, IsWord-out, backup-again, backup-short, decimal-short, digest-again, keys-again, name-again, number-again, out-again, out-short}

-- a console as far as its lines are read
abbrev pub part : Option NamedFile → Option NamedFile → Option NamedFile → Option Backup → ℕ → List KeyChange
    → PerKind (Option OutLine) → DraftConsole
part bios cart save backup off changes outs = record {
  bios = bios;
  cart = cart;
  save = save;
  keys = None;
  changes = changes;
  backup = backup;
  off = off;
  outs = outs;
}

abbrev pub no_outs : PerKind (Option OutLine)
no_outs = per_kind (λ _. None)

-- ---- files

abbrev pub file_word : FileKind → List ℕ
file_word file.Bios = codes "bios"
file_word file.Cart = codes "cart"
file_word file.Save = codes "save"
file_word file.Keys = codes "keys"

file_word-word : (f : FileKind) → IsWord (file_word f)
file_word-word file.Bios = record { some = omega arith; bytes = refl }
file_word-word file.Cart = record { some = omega arith; bytes = refl }
file_word-word file.Save = record { some = omega arith; bytes = refl }
file_word-word file.Keys = record { some = omega arith; bytes = refl }

file_word-plain : (f : FileKind) (rest : List ℕ) → is_comment (file_word f ++ rest) ≡ false
file_word-plain file.Bios rest = refl
file_word-plain file.Cart rest = refl
file_word-plain file.Save rest = refl
file_word-plain file.Keys rest = refl

file_word-short : (f : FileKind) → length (file_word f) ≤ 8
file_word-short file.Bios = lit≤ tt
file_word-short file.Cart = lit≤ tt
file_word-short file.Save = lit≤ tt
file_word-short file.Keys = lit≤ tt

file-says : (top : Top) (whole : List ConsoleJob) (last : DraftConsole) (f : FileKind) (name : List ℕ)
    (stated : Option (List ℕ)) → file_refusal f last ≡ None → is_name name ≡ true → IfSome stated IsDigest
    → words_say (inside top whole last) (file_word f ∷ name ∷ digest_words stated) ≡ Ok (Some (File f name stated))
unfolding keyword_of refusal_at arguments
file-says top whole last file.Bios name stated place named right =
    let a = name-again name (digest_words stated) named in
    let b = digest-again stated right in
    rw (place, a, b) refl
file-says top whole last file.Cart name stated place named right =
    let a = name-again name (digest_words stated) named in
    let b = digest-again stated right in
    rw (place, a, b) refl
file-says top whole last file.Save name stated place named right =
    let a = name-again name (digest_words stated) named in
    let b = digest-again stated right in
    rw (place, a, b) refl
file-says top whole last file.Keys name stated place named right =
    let a = name-again name (digest_words stated) named in
    let b = digest-again stated right in
    rw (place, a, b) refl

-- a console with the file that may be found
abbrev pub put_file : FileKind → Option NamedFile → DraftConsole → DraftConsole
put_file f None last = last
put_file f (Some named) last = with_file f named last

file-plus : (n : ℕ) (top : Top) (whole : List ConsoleJob) (last : DraftConsole) (f : FileKind) (name : List ℕ)
    (stated : Option (List ℕ)) → plus_statement n (File f name stated) (inside top whole last)
    ≡ inside top whole (with_file f (named_file name stated n) last)
unfolding plus_statement
file-plus n top whole last f name stated = refl

-- the line of a file that is named: it is found again, but for its line
record NamedReads (n : ℕ) (top : Top) (whole : List ConsoleJob) (last : DraftConsole) (f : FileKind)
    (named : NamedFile) : Type 0 where
  after : ℕ
  found : NamedFile
  same : unlined_file found ≡ unlined_file named
  reads : Reads n (inside top whole last) (file_text (file_word f) named) after
      (inside top whole (with_file f found last))

named-reads : (n : ℕ) (top : Top) (whole : List ConsoleJob) (last : DraftConsole) (f : FileKind) (named : NamedFile)
    → file_refusal f last ≡ None → IsFile named → NamedReads n top whole last f named
named-reads n top whole last f named place sound =
    let line = stated-line (file_word f) named.name named.digest (file_word-word f) (IsWord-name named.name sound.named)
    (file_word-plain f (spaced (named.name ∷ digest_words named.digest))) (file_word-short f)
    (name-short named.name sound.named) sound.stated in
    let says = file-says top whole last f named.name named.digest place sound.named sound.stated in
    let reads = line-reads n (inside top whole last) (file_word f) (named.name ∷ digest_words named.digest)
    (File f named.name named.digest) line says in
    record {
      after = n + 1;
      found = named_file named.name named.digest (n + 1);
      same = refl;
      reads = rw (file-plus (n + 1) top whole last f named.name named.digest) at reads;
    }

-- the line of a file that may be named
record FileReads (n : ℕ) (top : Top) (whole : List ConsoleJob) (last : DraftConsole) (f : FileKind)
    (named : Option NamedFile) : Type 0 where
  after : ℕ
  found : Option NamedFile
  same : option_map unlined_file found ≡ option_map unlined_file named
  reads : Reads n (inside top whole last) (any_file_text (file_word f) named) after
      (inside top whole (put_file f found last))

file-reads : (n : ℕ) (top : Top) (whole : List ConsoleJob) (last : DraftConsole) (f : FileKind)
    (named : Option NamedFile) → file_refusal f last ≡ None → IfSome named IsFile → FileReads n top whole last f named
file-reads n top whole last f None place sound = record {
  after = n;
  found = None;
  same = refl;
  reads = reads-nothing n (inside top whole last);
}
file-reads n top whole last f (Some named) place sound =
    let line = named-reads n top whole last f named place sound in
    record {
      after = line.after;
      found = Some line.found;
      same = ap (λ file. Some file) line.same;
      reads = line.reads;
    }

put-cart : (a found : Option NamedFile)
    → put_file file.Cart found (part a None None None 0 [] no_outs) ≡ part a found None None 0 [] no_outs
put-cart a None = refl
put-cart a (Some named) = refl

put-save : (a b found : Option NamedFile)
    → put_file file.Save found (part a b None None 0 [] no_outs) ≡ part a b found None 0 [] no_outs
put-save a b None = refl
put-save a b (Some named) = refl

-- the lines of a console's files
pub record FilesRead (n : ℕ) (top : Top) (whole : List ConsoleJob) (console : ConsoleJob) : Type 0 where
  pub after : ℕ
  pub bios : NamedFile
  pub cart : Option NamedFile
  pub save : Option NamedFile
  pub same_bios : unlined_file bios ≡ unlined_file console.bios
  pub same_cart : option_map unlined_file cart ≡ option_map unlined_file console.cart
  pub same_save : option_map unlined_file save ≡ option_map unlined_file console.save
  pub reads : Reads n (inside top whole (part None None None None 0 [] no_outs)) (files_text console) after
      (inside top whole (part (Some bios) cart save None 0 [] no_outs))

pub files-read : (n : ℕ) (top : Top) (whole : List ConsoleJob) (console : ConsoleJob) → IsConsole console
    → FilesRead n top whole console
files-read n top whole console sound =
    let bios = named-reads n top whole (part None None None None 0 [] no_outs) file.Bios console.bios refl sound.bios in
    let image = Some bios.found in
    let cart =
    file-reads bios.after top whole (part image None None None 0 [] no_outs) file.Cart console.cart refl
    sound.lines.cart in
    let save =
    file-reads cart.after top whole (part image cart.found None None 0 [] no_outs) file.Save console.save refl
    sound.lines.save in
    let b = rw (put-cart image cart.found) at cart.reads in
    let c = rw (put-save image cart.found save.found) at save.reads in
    record {
      after = save.after;
      bios = bios.found;
      cart = cart.found;
      save = save.found;
      same_bios = bios.same;
      same_cart = cart.same;
      same_save = save.same;
      reads = reads-then _ _ _ _ _ _ (file_text (codes "bios") console.bios) _ bios.reads
          (reads-then _ _ _ _ _ _ (any_file_text (codes "cart") console.cart) _ b c);
    }

-- ---- what keeps the saves

-- whether a console has a line of it, and what its line has said
abbrev pub has_line : Backup → Bool
has_line Sram = false
has_line Flash64 = true
has_line Flash128 = true

abbrev pub backup_said : Backup → Option Backup
backup_said Sram = None
backup_said Flash64 = Some Flash64
backup_said Flash128 = Some Flash128

pub said-again : (backup : Backup) → backup_or_sram (backup_said backup) ≡ backup
said-again Sram = refl
said-again Flash64 = refl
said-again Flash128 = refl

backup-says : (top : Top) (whole : List ConsoleJob) (bios cart save : Option NamedFile) (backup : Backup)
    → is_two top.version ≡ true
    → words_say (inside top whole (part bios cart save None 0 [] no_outs)) (codes "backup" ∷ backup_word backup ∷ [])
    ≡ Ok (Some (KeepsIn backup))
unfolding keyword_of refusal_at arguments
backup-says top whole bios cart save backup two = let is = backup-again backup [] in rw (two, is) refl

backup-plus : (n : ℕ) (top : Top) (whole : List ConsoleJob) (bios cart save : Option NamedFile) (backup : Backup)
    → plus_statement n (KeepsIn backup) (inside top whole (part bios cart save None 0 [] no_outs))
    ≡ inside top whole (part bios cart save (Some backup) 0 [] no_outs)
unfolding plus_statement
backup-plus n top whole bios cart save backup = refl

backup-line : (backup : Backup) → IsLine (codes "backup") (backup_word backup ∷ [])
backup-line backup = record {
  keyword = record { some = omega arith; bytes = refl };
  words = are_more (backup_word backup) [] (IsWord-backup backup) are_none;
  plain = refl;
  short = omega (arith, length-append (backup_word backup) [], backup-short backup);
}

-- the line of what keeps the saves, where there is one
pub record BackupRead (n : ℕ) (top : Top) (whole : List ConsoleJob) (bios cart save : Option NamedFile)
    (backup : Backup)
    : Type 0 where
  pub after : ℕ
  pub reads : Reads n (inside top whole (part bios cart save None 0 [] no_outs)) (backup_text backup) after
      (inside top whole (part bios cart save (backup_said backup) 0 [] no_outs))

said-read : (n : ℕ) (top : Top) (whole : List ConsoleJob) (bios cart save : Option NamedFile) (backup : Backup)
    → is_two top.version ≡ true
    → Reads n (inside top whole (part bios cart save None 0 [] no_outs))
    (line_of (codes "backup") (backup_word backup ∷ []))
    (n + 1) (inside top whole (part bios cart save (Some backup) 0 [] no_outs))
said-read n top whole bios cart save backup two =
    rw (backup-plus (n + 1) top whole bios cart save backup) at
    (line-reads n (inside top whole (part bios cart save None 0 [] no_outs)) (codes "backup") (backup_word backup ∷ [])
    (KeepsIn backup) (backup-line backup) (backup-says top whole bios cart save backup two))

pub backup-read : (n : ℕ) (top : Top) (whole : List ConsoleJob) (bios cart save : Option NamedFile) (backup : Backup)
    → (has_line backup ≡ true → is_two top.version ≡ true) → BackupRead n top whole bios cart save backup
backup-read n top whole bios cart save Sram two =
    record { after = n; reads = reads-nothing n (inside top whole (part bios cart save None 0 [] no_outs)) }
backup-read n top whole bios cart save Flash64 two =
    record { after = n + 1; reads = said-read n top whole bios cart save Flash64 (two refl) }
backup-read n top whole bios cart save Flash128 two =
    record { after = n + 1; reads = said-read n top whole bios cart save Flash128 (two refl) }

-- ---- the clock from which on the console is on

-- a console that isn't on from the start, or keeps its saves in no SRAM, is of version 2
pub record CanStand (version : JobVersion) (console : ConsoleJob) : Type 0 where
  pub off : 0 < console.off → is_two version ≡ true
  pub backup : has_line console.backup ≡ true → is_two version ≡ true

off-says : (top : Top) (whole : List ConsoleJob) (bios cart save : Option NamedFile) (backup : Option Backup) (off : ℕ)
    → 0 < off → off < 2 ^ 38 → is_two top.version ≡ true
    → words_say (inside top whole (part bios cart save backup 0 [] no_outs)) (codes "off" ∷ decimal off ∷ [])
    ≡ Ok (Some (Off off))
unfolding keyword_of refusal_at arguments
off-says top whole bios cart save backup off some few two =
    let is = number-again 1 (2 ^ 38 - 1) off [] (omega (arith, some)) (omega (arith, few)) (omega (arith, few)) in
    rw (two, is) refl

off-plus : (n : ℕ) (top : Top) (whole : List ConsoleJob) (bios cart save : Option NamedFile) (backup : Option Backup)
    (off : ℕ) → plus_statement n (Off off) (inside top whole (part bios cart save backup 0 [] no_outs))
    ≡ inside top whole (part bios cart save backup off [] no_outs)
unfolding plus_statement
off-plus n top whole bios cart save backup off = refl

off-line : (off : ℕ) → off < 2 ^ 38 → IsLine (codes "off") (decimal off ∷ [])
off-line off few =
    number-line (codes "off") off (record { some = omega arith; bytes = refl }) refl (lit≤ tt) (omega (arith, few))

off_text-some : (off : ℕ) → 0 < off → off_text off ≡ line_of (codes "off") (decimal off ∷ [])
off_text-some off some =
    let later : (off == 0) ≡ false = grind (arith, nat_tests) in
    rw later refl

-- the line of the clock, where there is one
pub record OffRead (n : ℕ) (top : Top) (whole : List ConsoleJob) (bios cart save : Option NamedFile)
    (backup : Option Backup) (off : ℕ) : Type 0 where
  pub after : ℕ
  pub reads : Reads n (inside top whole (part bios cart save backup 0 [] no_outs)) (off_text off) after
      (inside top whole (part bios cart save backup off [] no_outs))

pub off-read : (n : ℕ) (top : Top) (whole : List ConsoleJob) (bios cart save : Option NamedFile)
    (backup : Option Backup) (off : ℕ) → off < 2 ^ 38 → (0 < off → is_two top.version ≡ true)
    → OffRead n top whole bios cart save backup off
off-read n top whole bios cart save backup zero few two =
    record { after = n; reads = reads-nothing n (inside top whole (part bios cart save backup 0 [] no_outs)) }
off-read n top whole bios cart save backup (suc m) few two =
    let some : 0 < suc m = omega arith in
    let line =
    line-reads n (inside top whole (part bios cart save backup 0 [] no_outs)) (codes "off") (decimal (suc m) ∷ [])
    (Off (suc m)) (off-line (suc m) few) (off-says top whole bios cart save backup (suc m) some few (two some)) in
    record {
      after = n + 1;
      reads = rw (off_text-some (suc m) some) (rw (off-plus (n + 1) top whole bios cart save backup (suc m)) at line);
    }

-- ---- key changes

-- a change that may follow those before it
record Follows (before : List KeyChange) (change : KeyChange) : Type 0 where
  is : IsChange change
  after : least_clock before ≤ change.clock
  room : length before < most_changes

least-none : least_clock [] ≡ 0
unfolding least_clock
least-none = refl

follows-least : (before rest : List KeyChange) (change : KeyChange) → AreChanges (before ++ change ∷ rest)
    → least_clock before ≤ change.clock
follows-least [] rest change all = omega (arith, least-none)
follows-least (b ∷ before) rest change all =
    let front = b ∷ before in
    let long = length-append front (change ∷ rest) in
    let last = last-least front change (omega arith) in
    let rising = all.rising (length front - 1) (length front) change (omega arith) (omega (arith, long)) in
    let left =
    ap (λ (c : KeyChange). c.clock)
    (get_or_append_left front (change ∷ rest) change (length front - 1) (omega arith)) in
    let right = ap (λ (c : KeyChange). c.clock) (get_or-append_seam front change rest change) in
    omega (arith, last, rising, left, right)

follows : (before rest : List KeyChange) (change : KeyChange) → AreChanges (before ++ change ∷ rest)
    → Follows before change
follows before rest change all =
    let long = length-append before (change ∷ rest) in
    record {
      is = subst IsChange (get_or-append_seam before change rest change)
          (all.each (length before) change (omega (arith, long)));
      after = follows-least before rest change all;
      room = omega (arith, long, all.few);
    }

change-says : (top : Top) (whole : List ConsoleJob) (bios cart save : Option NamedFile) (backup : Option Backup)
    (off : ℕ) (before : List KeyChange) (change : KeyChange) → Follows before change
    → words_say (inside top whole (part bios cart save backup off before no_outs))
    (codes "key" ∷ decimal change.clock ∷ keys_word change.keys ∷ [])
    ≡ Ok (Some (Key change))
unfolding keyword_of refusal_at arguments change_at
change-says top whole bios cart save backup off before change h =
    let clock =
    number-again 0 (2 ^ 38 - 1) change.clock (keys_word change.keys ∷ []) (omega arith) (omega (arith, h.is.early))
    (omega (arith, h.is.early)) in
    let keys = keys-again change.keys [] h.is.keys in
    let rising : nat_le (least_clock before) change.clock ≡ true = le-leb _ _ h.after in
    let room : nat_lt (length before) most_changes ≡ true = lt-ltb _ _ h.room in
    rw (clock, rising, keys, room) refl

change-line : (change : KeyChange) → IsChange change
    → IsLine (codes "key") (decimal change.clock ∷ keys_word change.keys ∷ [])
change-line change is = record {
  keyword = record { some = omega arith; bytes = refl };
  words =
      are_more (decimal change.clock) (keys_word change.keys ∷ [])
      (IsWord-decimal change.clock (omega (arith, is.early)))
      (are_more (keys_word change.keys) [] (IsWord-keys change.keys is.keys) are_none);
  plain = refl;
  short = omega (
    arith,
    length-append (decimal change.clock) (32 ∷ (keys_word change.keys ++ [])),
    decimal-short change.clock (omega (arith, is.early)),
  );
}

change-plus : (n : ℕ) (top : Top) (whole : List ConsoleJob) (bios cart save : Option NamedFile) (backup : Option Backup)
    (off : ℕ) (before : List KeyChange) (change : KeyChange)
    → plus_statement n (Key change) (inside top whole (part bios cart save backup off before no_outs))
    ≡ inside top whole (part bios cart save backup off (before ++ change ∷ []) no_outs)
unfolding plus_statement
change-plus n top whole bios cart save backup off before change = refl

-- the lines of the changes after those before them
pub record ChangesRead (n : ℕ) (top : Top) (whole : List ConsoleJob) (bios cart save : Option NamedFile)
    (backup : Option Backup) (off : ℕ) (before changes : List KeyChange) : Type 0 where
  pub after : ℕ
  pub reads : Reads n (inside top whole (part bios cart save backup off before no_outs)) (changes_text changes) after
      (inside top whole (part bios cart save backup off (before ++ changes) no_outs))

pub changes-read : (n : ℕ) (top : Top) (whole : List ConsoleJob) (bios cart save : Option NamedFile)
    (backup : Option Backup) (off : ℕ) (before changes : List KeyChange)
    → AreChanges (before ++ changes) → ChangesRead n top whole bios cart save backup off before changes
unfolding changes_text
changes-read n top whole bios cart save backup off before [] all =
    record {
      after = n;
      reads = rw append-nil (reads-nothing n (inside top whole (part bios cart save backup off before no_outs)));
    }
changes-read n top whole bios cart save backup off before (change ∷ changes) all =
    let next = follows before changes change all in
    let line = line-reads n (inside top whole (part bios cart save backup off before no_outs)) (codes "key")
    (decimal change.clock ∷ keys_word change.keys ∷ []) (Key change) (change-line change next.is)
    (change-says top whole bios cart save backup off before change next) in
    let here = rw (change-plus (n + 1) top whole bios cart save backup off before change) at line in
    let joined : (before ++ change ∷ []) ++ changes ≡ before ++ change ∷ changes =
    append_assoc before (change ∷ []) changes in
    let rest =
    changes-read (n + 1) top whole bios cart save backup off (before ++ change ∷ []) changes (rw joined all) in
    record {
      after = rest.after;
      reads = reads-then _ _ _ _ _ _ (change_text change) _ here (rw joined at rest.reads);
    }

-- ---- outputs

out-says : (top : Top) (whole : List ConsoleJob) (last : DraftConsole) (out : OutKind) (stated : Option (List ℕ))
    → is_some (at_kind last.outs out) ≡ false → IfSome stated IsDigest
    → words_say (inside top whole last) (codes "out" ∷ out_name out ∷ digest_words stated) ≡ Ok (Some (Out out stated))
unfolding keyword_of refusal_at arguments
out-says top whole last out stated free right =
    let a = out-again out (digest_words stated) in
    let b = digest-again stated right in
    rw (a, free, b) refl

abbrev pub put_out : OutKind → Option OutLine → DraftConsole → DraftConsole
put_out out None last = last
put_out out (Some asked) last = with_output out asked last

-- the line of an output that may be asked for
record OutReads (n : ℕ) (top : Top) (whole : List ConsoleJob) (last : DraftConsole) (out : OutKind)
    (asked : Option OutLine) : Type 0 where
  after : ℕ
  reads : Reads n (inside top whole last) (asked_text (out_name out) asked) after
      (inside top whole (put_out out asked last))

out-plus : (n : ℕ) (top : Top) (whole : List ConsoleJob) (last : DraftConsole) (out : OutKind) (asked : OutLine)
    → plus_statement n (Out out asked.digest) (inside top whole last) ≡ inside top whole (with_output out asked last)
unfolding plus_statement
out-plus n top whole last out asked = refl

out-word : IsWord (codes "out")
out-word = record { some = omega arith; bytes = refl }

out-reads : (n : ℕ) (top : Top) (whole : List ConsoleJob) (last : DraftConsole) (out : OutKind) (asked : Option OutLine)
    → is_some (at_kind last.outs out) ≡ false → IsOutput asked → OutReads n top whole last out asked
out-reads n top whole last out None free sound =
    record { after = n; reads = reads-nothing n (inside top whole last) }
out-reads n top whole last out (Some asked) free sound =
    let line = stated-line (codes "out") (out_name out) asked.digest out-word (IsWord-out out) refl (lit≤ tt)
    (omega (arith, out-short out)) sound in
    let says = out-says top whole last out asked.digest free sound in
    let reads = line-reads n (inside top whole last) (codes "out") (out_name out ∷ digest_words asked.digest)
    (Out out asked.digest) line says in
    record { after = n + 1; reads = rw (out-plus (n + 1) top whole last out asked) at reads }

-- an output that isn't asked for yet, put in
put-out : (kind : OutKind) (found : Option OutLine) (bios cart save : Option NamedFile) (backup : Option Backup)
    (off : ℕ) (changes : List KeyChange) (outs : PerKind (Option OutLine)) → at_kind outs kind ≡ None
    → put_out kind found (part bios cart save backup off changes outs)
    ≡ part bios cart save backup off changes (with_kind kind found outs)
put-out kind (Some asked) bios cart save backup off changes outs free = refl
put-out Frames None bios cart save backup off changes outs free =
    ap (λ one. part bios cart save backup off changes (with_kind Frames one outs)) free
put-out Samples None bios cart save backup off changes outs free =
    ap (λ one. part bios cart save backup off changes (with_kind Samples one outs)) free
put-out output.Words None bios cart save backup off changes outs free =
    ap (λ one. part bios cart save backup off changes (with_kind output.Words one outs)) free
put-out State None bios cart save backup off changes outs free =
    ap (λ one. part bios cart save backup off changes (with_kind State one outs)) free
put-out Save None bios cart save backup off changes outs free =
    ap (λ one. part bios cart save backup off changes (with_kind Save one outs)) free

-- none of these kinds is asked for when its turn comes
abbrev pub AreFree : List OutKind → PerKind (Option OutLine) → Type 0
AreFree [] outs = Unit {0}
AreFree (kind ∷ kinds) outs =
    (at_kind outs kind ≡ None) × ((found : Option OutLine) → AreFree kinds (with_kind kind found outs))

all-free : AreFree all_kinds no_outs
all-free = (refl, λ a. (refl, λ b. (refl, λ c. (refl, λ d. (refl, λ e. tt)))))

-- the lines of a console's outputs of these kinds
pub record KindsRead (n : ℕ) (top : Top) (whole : List ConsoleJob) (bios cart save : Option NamedFile)
    (backup : Option Backup) (off : ℕ) (changes : List KeyChange)
    (outs : PerKind (Option OutLine)) (console : ConsoleJob) (kinds : List OutKind) : Type 0 where
  pub after : ℕ
  pub reads : Reads n (inside top whole (part bios cart save backup off changes outs))
      (flat_map (out_text console) kinds) after
      (inside top whole (part bios cart save backup off changes (all_with kinds console.outs outs)))

kinds-read : (n : ℕ) (top : Top) (whole : List ConsoleJob) (bios cart save : Option NamedFile) (backup : Option Backup)
    (off : ℕ) (changes : List KeyChange) (outs : PerKind (Option OutLine)) (console : ConsoleJob) (kinds : List OutKind)
    → IsConsole console → AreFree kinds outs
    → KindsRead n top whole bios cart save backup off changes outs console kinds
kinds-read n top whole bios cart save backup off changes outs console [] sound free =
    record { after = n; reads = reads-nothing n (inside top whole (part bios cart save backup off changes outs)) }
kinds-read n top whole bios cart save backup off changes outs console (kind ∷ kinds) sound free =
    let found = at_kind console.outs kind in
    let last = part bios cart save backup off changes outs in
    let unasked : is_some (at_kind last.outs kind) ≡ false = rw free.0 refl in
    let line = out-reads n top whole last kind found unasked (sound.lines.outs kind) in
    let here = rw (put-out kind found bios cart save backup off changes outs free.0) at line.reads in
    let rest =
    kinds-read line.after top whole bios cart save backup off changes (with_kind kind found outs) console kinds sound
    (free.1 found) in
    record {
      after = rest.after;
      reads = reads-then _ _ _ _ _ _ (out_text console kind) _ here rest.reads;
    }

-- the lines of a console's outputs
pub record OutsRead (n : ℕ) (top : Top) (whole : List ConsoleJob) (bios cart save : Option NamedFile)
    (backup : Option Backup) (off : ℕ) (changes : List KeyChange) (console : ConsoleJob) : Type 0 where
  pub after : ℕ
  pub reads : Reads n (inside top whole (part bios cart save backup off changes no_outs)) (outs_text console) after
      (inside top whole (part bios cart save backup off changes console.outs))

pub outs-read : (n : ℕ) (top : Top) (whole : List ConsoleJob) (bios cart save : Option NamedFile)
    (backup : Option Backup) (off : ℕ) (changes : List KeyChange) (console : ConsoleJob)
    → IsConsole console → OutsRead n top whole bios cart save backup off changes console
outs-read n top whole bios cart save backup off changes console sound =
    let all = kinds-read n top whole bios cart save backup off changes no_outs console all_kinds sound all-free in
    record { after = all.after; reads = all.reads }

-- ---- a console's lines after its first one

-- a whole console, as its lines have said it
abbrev pub as_draft : ConsoleJob → DraftConsole
as_draft console = record {
  bios = Some console.bios;
  cart = console.cart;
  save = console.save;
  keys = console.keys;
  changes = console.changes;
  backup = backup_said console.backup;
  off = console.off;
  outs = console.outs;
}

pub record BodyRead (n : ℕ) (top : Top) (whole : List ConsoleJob) (console : ConsoleJob) : Type 0 where
  pub after : ℕ
  pub last : ConsoleJob
  pub same : unlined_console last ≡ unlined_console (without_key_file console)
  pub reads : Reads n (inside top whole (part None None None None 0 [] no_outs))
      (files_text console ++ (backup_text console.backup
      ++ (off_text console.off ++ (changes_text console.changes ++ outs_text console)))) after
      (inside top whole (as_draft last))

pub body-read : (n : ℕ) (top : Top) (whole : List ConsoleJob) (console : ConsoleJob) → IsConsole console
    → CanStand top.version console → BodyRead n top whole console
body-read n top whole console sound can =
    let files = files-read n top whole console sound in
    let image = Some files.bios in
    let said = backup_said console.backup in
    let backup = backup-read files.after top whole image files.cart files.save console.backup can.backup in
    let off = off-read backup.after top whole image files.cart files.save said console.off sound.off can.off in
    let changes = changes-read off.after top whole image files.cart files.save said console.off [] console.changes
    sound.lines.changes in
    let outs =
    outs-read changes.after top whole image files.cart files.save said console.off console.changes console sound in
    record {
      after = outs.after;
      last = record {
        bios = files.bios;
        cart = files.cart;
        save = files.save;
        keys = None;
        changes = console.changes;
        backup = console.backup;
        off = console.off;
        outs = console.outs;
      };
      same = rw (files.same_bios, files.same_cart, files.same_save) refl;
      reads = reads-then _ _ _ _ _ _ (files_text console) _ files.reads
          (reads-then _ _ _ _ _ _ (backup_text console.backup) _ backup.reads
          (reads-then _ _ _ _ _ _ (off_text console.off) _ off.reads
          (reads-then _ _ _ _ _ _ (changes_text console.changes) _ changes.reads outs.reads)));
    }
