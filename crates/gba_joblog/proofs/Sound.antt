-- Every job that is read is sound: each line keeps what is said so far sound.
use Rattle.std.proofs.Common.{◌≡◌, ◌<◌, ◌≤◌, ◌^◌, ℕ, ◌+◌, ◌-◌, Bool, true, false, cond, not, List, [], ◌∷◌, length, Option, Some, None, Result, Ok, Err, refl, ap, sym, subst, ◌∙◌, lit<, lit≤, arith}
use Rattle.std.specs.Prelude.{IfOk, IfSome, is_some, unwrap_or}
use Rattle.std.specs.List.{All}
use Rattle.std.proofs.lemmas.List.{length-append}
use Rattle.std.proofs.lemmas.List.Elements.{All-nil, All-push}
use Rattle.std.proofs.lemmas.Bool.{false≢true}
use Rattle.gba_text.specs.Lines.{lines}
use Rattle.gba_text.specs.Words.{words}
use Rattle.gba_text.proofs.Languages.{says}
use Rattle.gba_text.proofs.Steps.{bind-ok, ok-is, some-is, held-true, or_refused-some}
use Rattle.gba_text.specs.Answers.{Parses}
use Rattle.gba_text.specs.Languages.{Leads, EndsIn}
use Rattle.gba_text.specs.Steps.{◌>>=◌, holds, Taken}
use Rattle.gba_joblog.specs.Answers.{line_error}
use Rattle.gba_joblog.specs.Cable.{delays_of, link_for, players_for, usual_delay}
use Rattle.gba_joblog.specs.Changes.{change_at}
use Rattle.gba_joblog.specs.Draft.{Draft, DraftConsole, nothing_said, silent_console, with_image}
use Rattle.gba_joblog.specs.Lines.{is_said}
use Rattle.gba_joblog.specs.Job.{ConsoleJob, NamedFile, WholeJob}
use Rattle.gba_joblog.specs.Language.{jobs, line_says, said_with, words_say, words_say_if, keyword_says, statement_of, unless_ended, plus_statement_if, job_at_end, job_at_place, job_with, job_of}
use Rattle.gba_joblog.specs.Names.{is_name}
use Rattle.gba_joblog.specs.Operands.{LineWords, word_at, number_at, name_in, name_of, name_at, digest_at, pair_at, player_at, version_at, backup_at, out_kind_at, end_at}
use Rattle.gba_joblog.specs.Outputs.{EachKind, at_kind}
use Rattle.gba_joblog.specs.Soundness.{AreConsoleLines, IsFile, IsOutput, IsPartOfConsole, IsConsole, IsJob}
use Rattle.gba_joblog.specs.Statements.{Statement, and_whole, Version, Cycles, Delay, Link, Console, File, Key, KeepsIn, Off, Out, End, keyword_in, most_cycles, refusal_at, file_refusal, without_changes, without_file, once, arguments, plus_statement, at_start, in_console, has_image, next_player, whole_consoles, named_file, asked_output, with_file}
use Rattle.gba_joblog.specs.declared.cable.Link.{Link as CableLink}
use Rattle.gba_joblog.specs.declared.draft.JobVersion.{JobVersion}
use Rattle.gba_joblog.specs.declared.draft.JobVersion.TheVariants.{One, Two}
use Rattle.gba_joblog.specs.declared.draft.Place.{Place}
use Rattle.gba_joblog.specs.declared.draft.Place.TheVariants.{Start, Head, Inside, Ended}
use Rattle.gba_joblog.specs.declared.job.FileKind.{FileKind}
use Rattle.gba_joblog.specs.declared.job.FileKind.TheVariants as file
use Rattle.gba_joblog.specs.declared.job.KeyChange.{KeyChange}
use Rattle.gba_joblog.specs.declared.job.OutLine.{OutLine}
use Rattle.gba_joblog.specs.declared.kinds.ParseRefused.{ParseRefused}
use Rattle.gba_joblog.specs.declared.kinds.JobKind.{JobKind}
use Rattle.gba_joblog.specs.declared.kinds.JobKind.TheVariants.{Repeated, Missing}
use Rattle.gba_joblog.specs.declared.outputs.OutKind.TheVariants.{Frames, Samples, State, Save}
use Rattle.gba_joblog.specs.declared.outputs.OutKind.TheVariants as output
use Rattle.gba_joblog.specs.declared.statement.Keyword.{Keyword}
use Rattle.gba_joblog.specs.declared.statement.Keyword.TheVariants as keyword
use Rattle.gba_joblog.proofs.Cables.{DelayInRange, IsLink, delays-sound}
use Rattle.gba_joblog.proofs.EachKind.{put-holds}
use Rattle.gba_joblog.proofs.SoundChanges.{none, change_at-keeps}
use Rattle.gba_joblog.proofs.Steps.{number_at-range, player_at-is, digest_at-is}

abbrev pub InRange : ℕ → Type 0
InRange cycles = (1 ≤ cycles) × (cycles ≤ 2 ^ 38)

most-few : (version : JobVersion) → most_cycles version ≤ 2 ^ 38
most-few One = lit≤ tt
most-few Two = lit≤ tt

-- how many consoles are whole, by the place
abbrev pub AreCounted : Place → ℕ → Type 0
AreCounted Start whole = whole ≡ 0
AreCounted Head whole = whole ≡ 0
AreCounted Inside whole = whole ≤ 3
AreCounted Ended whole = (1 ≤ whole) × (whole ≤ 4)

pub record IsDraft (d : Draft) : Type 0 where
  cycles : IfSome d.cycles InRange
  delay : IfSome d.delay DelayInRange
  links : All IsLink d.links
  last : IsPartOfConsole d.last
  each : All IsConsole d.consoles
  count : AreCounted d.place (length d.consoles)

silent-asks : EachKind IsOutput silent_console.outs
silent-asks Frames = tt
silent-asks Samples = tt
silent-asks output.Words = tt
silent-asks State = tt
silent-asks Save = tt

silent : IsPartOfConsole silent_console
silent = record {
  bios = tt;
  off = lit< tt;
  lines = record { cart = tt; save = tt; keys = tt; changes = none; apart = λ _. refl; outs = silent-asks };
}

pub begins : IsDraft nothing_said
begins =
    record { cycles = tt; delay = tt; links = All-nil IsLink; last = silent; each = All-nil IsConsole; count = refl }

starts : (place : Place) → at_start place ≡ None → place ≡ Start
starts Start h = refl
starts Head h = absurd cc
starts Inside h = absurd cc
starts Ended h = absurd cc

insides : (place : Place) (refusal : Option JobKind) → in_console place refusal ≡ None → place ≡ Inside
insides Start refusal h = absurd cc
insides Head refusal h = absurd cc
insides Inside refusal h = refl
insides Ended refusal h = absurd cc

stands : (place : Place) (refusal : Option JobKind) → in_console place refusal ≡ None → refusal ≡ None
stands Start refusal h = absurd cc
stands Head refusal h = absurd cc
stands Inside refusal h = h
stands Ended refusal h = absurd cc

no_changes : (changes : List KeyChange) (refusal : Option JobKind) → without_changes changes refusal ≡ None
    → changes ≡ []
no_changes [] refusal h = refl
no_changes (c ∷ changes) refusal h = absurd cc

no_file : (said : Bool) → without_file said ≡ None → said ≡ false
no_file true h = absurd cc
no_file false h = refl

name-is : (word name : List ℕ) → name_of word ≡ Some name → is_name name ≡ true
name-is word name h = by_test (is_name word) refl h where
  by_test : (t : Bool) → is_name word ≡ t → cond t (Some word) None ≡ Some name → is_name name ≡ true
  by_test true e s = let same : word ≡ name = cc in rw (← same) e
  by_test false e s = absurd cc

name_at-is : (ws : LineWords) (t : Taken LineWords (List ℕ)) → name_at ws ≡ Ok t → is_name t.value ≡ true
unfolding name_at
name_at-is ws t h =
    let b = bind-ok (word_at ws) name_in t h in
    name-is b.0.value t.value (or_refused-some _ _ (name_of b.0.value) t b.2)

with_file-keeps : (f : FileKind) (named : NamedFile) (c : DraftConsole) → IsFile named → IsPartOfConsole c
    → file_refusal f c ≡ None → IsPartOfConsole (with_file f named c)
with_file-keeps file.Bios named c is h place = record { bios = is; off = h.off; lines = h.lines }
with_file-keeps file.Cart named c is h place = record {
  bios = h.bios;
  off = h.off;
  lines = record {
    cart = is;
    save = h.lines.save;
    keys = h.lines.keys;
    changes = h.lines.changes;
    apart = h.lines.apart;
    outs = h.lines.outs;
  };
}
with_file-keeps file.Save named c is h place = record {
  bios = h.bios;
  off = h.off;
  lines = record {
    cart = h.lines.cart;
    save = is;
    keys = h.lines.keys;
    changes = h.lines.changes;
    apart = h.lines.apart;
    outs = h.lines.outs;
  };
}
with_file-keeps file.Keys named c is h place = record {
  bios = h.bios;
  off = h.off;
  lines = record {
    cart = h.lines.cart;
    save = h.lines.save;
    keys = is;
    changes = h.lines.changes;
    apart = λ _. no_changes c.changes (once (is_some c.keys)) place;
    outs = h.lines.outs;
  };
}

and_whole-sound : (consoles : List ConsoleJob) (last : DraftConsole) (bios : Option NamedFile) → All IsConsole consoles
    → IfSome bios IsFile → last.off < 2 ^ 38
    → AreConsoleLines last.cart last.save last.keys last.changes last.outs
    → All IsConsole (and_whole consoles last bios)
and_whole-sound consoles last None h is off lines = h
and_whole-sound consoles last (Some bios) h is off lines =
    All-push IsConsole consoles (with_image last bios) h (record { bios = is; off = off; lines = lines })

closes : (place : Place) (consoles : List ConsoleJob) (last : DraftConsole) → All IsConsole consoles
    → IsPartOfConsole last → All IsConsole (whole_consoles place consoles last)
closes Start consoles last h part = h
closes Head consoles last h part = h
closes Inside consoles last h part = and_whole-sound consoles last last.bios h part.bios part.off part.lines
closes Ended consoles last h part = h

and_whole-count : (consoles : List ConsoleJob) (last : DraftConsole) (bios : Option NamedFile) → is_some bios ≡ true
    → length (and_whole consoles last bios) ≡ length consoles + 1
and_whole-count consoles last None image = absurd cc
and_whole-count consoles last (Some bios) image = length-append consoles (with_image last bios ∷ [])

whole-count : (place : Place) (consoles : List ConsoleJob) (last : DraftConsole) → has_image place last ≡ true
    → length (whole_consoles place consoles last) ≡ next_player place (length consoles)
whole-count Start consoles last image = refl
whole-count Head consoles last image = refl
whole-count Inside consoles last image = and_whole-count consoles last last.bios image
whole-count Ended consoles last image = refl

ends_with : (place : Place) (consoles : List ConsoleJob) (last : DraftConsole) → in_console place None ≡ None
    → AreCounted place (length consoles) → is_some last.bios ≡ true
    → AreCounted Ended (length (whole_consoles place consoles last))
ends_with Start consoles last here count image = absurd cc
ends_with Head consoles last here count image = absurd cc
ends_with Inside consoles last here count image =
    let long = and_whole-count consoles last last.bios image in (omega (arith, long), omega (arith, long))
ends_with Ended consoles last here count image = absurd cc

-- each keyword with its operands keeps what is said sound
keeps : (n : ℕ) (d : Draft) (k : Keyword) (ws : LineWords) (s : Statement) → IsDraft d → refusal_at d k ≡ None
    → arguments d k ws ≡ Ok s → IsDraft (plus_statement n s d)
unfolding refusal_at arguments plus_statement
keeps n d keyword.Version ws s h place e =
    let b = bind-ok (version_at ws) (λ version. end_at version.left >>= (λ _. Ok (Version version.value))) s e in
    let c = bind-ok (end_at b.0.left) (λ _. Ok (Version b.0.value)) s b.2 in
    let same : s ≡ Version b.0.value = sym (ok-is (Version b.0.value) s c.2) in
    let here : d.place ≡ Start = starts d.place place in
    let none : length d.consoles ≡ 0 = rw here at h.count in
    rw same (record { cycles = h.cycles; delay = h.delay; links = h.links; last = h.last; each = h.each; count = none })
keeps n d keyword.Cycles ws s h place e =
    let b =
    bind-ok (number_at 1 (most_cycles d.version) ws) (λ cycles. end_at cycles.left >>= (λ _. Ok (Cycles cycles.value)))
    s e in
    let c = bind-ok (end_at b.0.left) (λ _. Ok (Cycles b.0.value)) s b.2 in
    let same : s ≡ Cycles b.0.value = sym (ok-is (Cycles b.0.value) s c.2) in
    let range = number_at-range 1 (most_cycles d.version) ws b.0 b.1 in
    let few = most-few d.version in
    rw same (record {
      cycles = (range.0, omega (arith, range.1, few));
      delay = h.delay;
      links = h.links;
      last = h.last;
      each = h.each;
      count = h.count;
    })
keeps n d keyword.Delay ws s h place e =
    let b = bind-ok (number_at 1 1024 ws) (λ delay. end_at delay.left >>= (λ _. Ok (Delay delay.value))) s e in
    let c = bind-ok (end_at b.0.left) (λ _. Ok (Delay b.0.value)) s b.2 in
    let same : s ≡ Delay b.0.value = sym (ok-is (Delay b.0.value) s c.2) in
    let range = number_at-range 1 1024 ws b.0 b.1 in
    rw same (record {
      cycles = h.cycles;
      delay = range;
      links = h.links;
      last = h.last;
      each = h.each;
      count = h.count;
    })
keeps n d keyword.Link ws s h place e =
    let b = bind-ok (pair_at ws)
    (λ pair. holds (not (is_some (link_for pair.value d.links))) Repeated
    >>= (λ _. number_at 1 1024 pair.left >>= (λ delay. end_at
    delay.left >>= (λ _. Ok (Link (record { pair = pair.value; delay = delay.value })))))) s e in
    let c =
    bind-ok (holds (not (is_some (link_for b.0.value d.links))) Repeated)
    (λ _. number_at 1 1024 b.0.left >>= (λ delay. end_at
    delay.left >>= (λ _. Ok (Link (record { pair = b.0.value; delay = delay.value }))))) s b.2 in
    let g = bind-ok (number_at 1 1024 b.0.left) (λ delay. end_at delay.left >>= (λ _. Ok
    (Link (record { pair = b.0.value; delay = delay.value })))) s c.2 in
    let link : CableLink = record { pair = b.0.value; delay = g.0.value } in
    let f = bind-ok (end_at g.0.left) (λ _. Ok (Link link)) s g.2 in
    let same : s ≡ Link link = sym (ok-is (Link link) s f.2) in
    let range = number_at-range 1 1024 b.0.left g.0 g.1 in
    rw same (record {
      cycles = h.cycles;
      delay = h.delay;
      links = All-push IsLink d.links link h.links range;
      last = h.last;
      each = h.each;
      count = h.count;
    })
keeps n d keyword.Console ws s h place e =
    let b = bind-ok (player_at (next_player d.place (length d.consoles)) ws)
    (λ player. holds (has_image d.place d.last) Missing >>= (λ _. end_at player.left >>= (λ _. Ok
    (Console player.value)))) s e in
    let c = bind-ok (holds (has_image d.place d.last) Missing) (λ _. end_at b.0.left >>= (λ _. Ok
    (Console b.0.value))) s b.2 in
    let f = bind-ok (end_at b.0.left) (λ _. Ok (Console b.0.value)) s c.2 in
    let same : s ≡ Console b.0.value = sym (ok-is (Console b.0.value) s f.2) in
    let image : has_image d.place d.last ≡ true = held-true (has_image d.place d.last) Missing c.0 c.1 in
    let few = player_at-is (next_player d.place (length d.consoles)) ws b.0 b.1 in
    rw same (record {
      cycles = h.cycles;
      delay = h.delay;
      links = h.links;
      last = silent;
      each = closes d.place d.consoles d.last h.each h.last;
      count = rw (whole-count d.place d.consoles d.last image) few.1;
    })
keeps n d (keyword.File f) ws s h place e =
    let b = bind-ok (name_at ws)
    (λ name. digest_at name.left >>= (λ digest. end_at digest.left >>= (λ _. Ok (File f name.value digest.value)))) s
    e in
    let c = bind-ok (digest_at b.0.left) (λ digest. end_at digest.left >>= (λ _. Ok
    (File f b.0.value digest.value))) s b.2 in
    let g = bind-ok (end_at c.0.left) (λ _. Ok (File f b.0.value c.0.value)) s c.2 in
    let same : s ≡ File f b.0.value c.0.value = sym (ok-is (File f b.0.value c.0.value) s g.2) in
    let is : IsFile (named_file b.0.value c.0.value n) =
    record { named = name_at-is ws b.0 b.1; stated = digest_at-is b.0.left c.0 c.1 } in
    rw same (record {
      cycles = h.cycles;
      delay = h.delay;
      links = h.links;
      last = with_file-keeps f (named_file b.0.value c.0.value n) d.last is h.last
          (stands d.place (file_refusal f d.last) place);
      each = h.each;
      count = h.count;
    })
keeps n d keyword.Key ws s h place e =
    let b = bind-ok (change_at d.last.changes ws) (λ change. Ok (Key change)) s e in
    let same : s ≡ Key b.0 = sym (ok-is (Key b.0) s b.2) in
    let alone : is_some d.last.keys ≡ false =
    no_file (is_some d.last.keys) (stands d.place (without_file (is_some d.last.keys)) place) in
    rw same (record {
      cycles = h.cycles;
      delay = h.delay;
      links = h.links;
      last = record {
        bios = h.last.bios;
        off = h.last.off;
        lines = record {
          cart = h.last.lines.cart;
          save = h.last.lines.save;
          keys = h.last.lines.keys;
          changes = change_at-keeps d.last.changes ws b.0 h.last.lines.changes b.1;
          apart = λ there. absurd (false≢true (sym alone ∙ there));
          outs = h.last.lines.outs;
        };
      };
      each = h.each;
      count = h.count;
    })
keeps n d keyword.Backup ws s h place e =
    let b = bind-ok (backup_at ws) (λ backup. end_at backup.left >>= (λ _. Ok (KeepsIn backup.value))) s e in
    let c = bind-ok (end_at b.0.left) (λ _. Ok (KeepsIn b.0.value)) s b.2 in
    let same : s ≡ KeepsIn b.0.value = sym (ok-is (KeepsIn b.0.value) s c.2) in
    rw same (record {
      cycles = h.cycles;
      delay = h.delay;
      links = h.links;
      last = record { bios = h.last.bios; off = h.last.off; lines = h.last.lines };
      each = h.each;
      count = h.count;
    })
keeps n d keyword.Off ws s h place e =
    let b = bind-ok (number_at 1 (2 ^ 38 - 1) ws) (λ off. end_at off.left >>= (λ _. Ok (Off off.value))) s e in
    let c = bind-ok (end_at b.0.left) (λ _. Ok (Off b.0.value)) s b.2 in
    let same : s ≡ Off b.0.value = sym (ok-is (Off b.0.value) s c.2) in
    let range = number_at-range 1 (2 ^ 38 - 1) ws b.0 b.1 in
    rw same (record {
      cycles = h.cycles;
      delay = h.delay;
      links = h.links;
      last = record { bios = h.last.bios; off = omega (arith, range.1); lines = h.last.lines };
      each = h.each;
      count = h.count;
    })
keeps n d keyword.Out ws s h place e =
    let b = bind-ok (out_kind_at ws)
    (λ out. holds (not (is_some (at_kind d.last.outs out.value))) Repeated
    >>= (λ _. digest_at out.left >>= (λ digest. end_at
    digest.left >>= (λ _. Ok (Out out.value digest.value))))) s e in
    let c =
    bind-ok (holds (not (is_some (at_kind d.last.outs b.0.value))) Repeated)
    (λ _. digest_at b.0.left >>= (λ digest. end_at
    digest.left >>= (λ _. Ok (Out b.0.value digest.value)))) s b.2 in
    let g = bind-ok (digest_at b.0.left) (λ digest. end_at digest.left >>= (λ _. Ok
    (Out b.0.value digest.value))) s c.2 in
    let f = bind-ok (end_at g.0.left) (λ _. Ok (Out b.0.value g.0.value)) s g.2 in
    let same : s ≡ Out b.0.value g.0.value =
    sym {a = Out b.0.value g.0.value} (ok-is (Out b.0.value g.0.value) s f.2) in
    let asked : OutLine = asked_output g.0.value in
    rw same (record {
      cycles = h.cycles;
      delay = h.delay;
      links = h.links;
      last = record {
        bios = h.last.bios;
        off = h.last.off;
        lines = record {
          cart = h.last.lines.cart;
          save = h.last.lines.save;
          keys = h.last.lines.keys;
          changes = h.last.lines.changes;
          apart = h.last.lines.apart;
          outs =
              put-holds IsOutput b.0.value (Some asked) d.last.outs (digest_at-is b.0.left g.0 g.1) h.last.lines.outs;
        };
      };
      each = h.each;
      count = h.count;
    })
keeps n d keyword.End ws s h place e =
    let b = bind-ok (holds (is_some d.last.bios) Missing) (λ _. end_at ws >>= (λ _. Ok End)) s e in
    let c = bind-ok (end_at ws) (λ _. Ok End) s b.2 in
    let same : s ≡ End = sym (ok-is End s c.2) in
    let image : is_some d.last.bios ≡ true = held-true (is_some d.last.bios) Missing b.0 b.1 in
    rw same (record {
      cycles = h.cycles;
      delay = h.delay;
      links = h.links;
      last = silent;
      each = closes d.place d.consoles d.last h.each h.last;
      count = ends_with d.place d.consoles d.last place h.count image;
    })

not-ended : (place : Place) (said : Result (Option Statement) JobKind) (s : Statement)
    → unless_ended place said ≡ Ok (Some s) → said ≡ Ok (Some s)
not-ended Start said s h = h
not-ended Head said s h = h
not-ended Inside said s h = h
not-ended Ended said s h = absurd cc

-- a keyword that may stand there, with operands that are right
record IsStatement (d : Draft) (s : Statement) : Type 0 where
  keyword : Keyword
  words : LineWords
  place : refusal_at d keyword ≡ None
  right : arguments d keyword words ≡ Ok s

by_place : (d : Draft) (k : Keyword) (ws : LineWords) (s : Statement) (o : Option JobKind) → refusal_at d k ≡ o
    → statement_of d k ws o ≡ Ok (Some s) → IsStatement d s
by_place d k ws s None place h =
    let b = bind-ok (arguments d k ws) (λ statement. Ok (Some statement)) (Some s) h in
    let same : b.0 ≡ s = some-is b.0 s (ok-is (Some b.0) (Some s) b.2) in
    record { keyword = k; words = ws; place = place; right = b.1 ∙ ap (λ s. Ok s) same }
by_place d k ws s (Some kind) place h = absurd cc

by_keyword : (d : Draft) (ws : LineWords) (s : Statement) (o : Option Keyword) → keyword_says d ws o ≡ Ok (Some s)
    → IsStatement d s
by_keyword d ws s None h = absurd cc
by_keyword d ws s (Some k) h = by_place d k ws s (refusal_at d k) refl h

by_words : (d : Draft) (ws : LineWords) (s : Statement) → words_say d ws ≡ Ok (Some s) → IsStatement d s
by_words d ws s h =
    let b =
    bind-ok (word_at ws) (λ word. unless_ended d.place (keyword_says d word.left (keyword_in d.version word.value)))
    (Some s) h in
    by_keyword d b.0.left s (keyword_in d.version b.0.value) (not-ended d.place (keyword_says d b.0.left
    (keyword_in d.version b.0.value)) s b.2)

by_said : (d : Draft) (ws : LineWords) (s : Statement) (said : Bool) → words_say_if d ws said ≡ Ok (Some s)
    → IsStatement d s
by_said d ws s true h = by_words d ws s h
by_said d ws s false h = absurd cc

says-statement : (d : Draft) (line : List ℕ) (s : Statement) → line_says d line ≡ Ok (Some s) → IsStatement d s
unfolding line_says
says-statement d line s h =
    let b = bind-ok (is_said line) (words_say_if d (words line)) (Some s) h in
    by_said d (words line) s b.0 b.2

with_statement : (n : ℕ) (d : Draft) (line : List ℕ) (o : Option Statement) → IsDraft d → line_says d line ≡ Ok o
    → IsDraft (plus_statement_if n d o)
with_statement n d line None h said = h
with_statement n d line (Some s) h said =
    let is = says-statement d line s said in
    keeps n d is.keyword is.words s h is.place is.right

line-keeps : (n : ℕ) (d e : Draft) (line : List ℕ) → IsDraft d → said_with n d line ≡ Ok e → IsDraft e
unfolding said_with
line-keeps n d e line h said =
    let b = bind-ok (line_says d line) (λ statement. Ok (plus_statement_if n d statement)) e said in
    subst IsDraft (ok-is (plus_statement_if n d b.0) e b.2) (with_statement n d line b.0 h b.1)

lines-keep : (n : ℕ) (d e : Draft) (ls : List (List ℕ)) → IsDraft d → Leads jobs n d ls e → IsDraft e
unfolding Leads
lines-keep n d e [] h leads = subst IsDraft leads h
lines-keep n d e (line ∷ ls) h leads = lines-keep (n + 1) leads.0 e ls (line-keeps
    (n + 1) d leads.0 line h leads.1) leads.2

usual : (delay : Option ℕ) → IfSome delay DelayInRange → DelayInRange (unwrap_or delay usual_delay)
usual None h = (omega arith, omega arith)
usual (Some delay) h = h

by_cycles : (d : Draft) (o : Option ℕ) (n : ℕ) (job : WholeJob) → IsDraft d → IfSome o InRange
    → AreCounted Ended (length d.consoles) → job_with d o n ≡ Ok job → IsJob job
by_cycles d None n job is range count h = absurd cc
by_cycles d (Some cycles) n job is range count h =
    let every = unwrap_or d.delay usual_delay in
    let players = players_for (length d.consoles) in
    subst IsJob
    (ok-is (record { cycles = cycles; delays = delays_of every d.links players; consoles = d.consoles }) job h)
    (record {
      some_cycles = range.0;
      few_cycles = range.1;
      delays = delays-sound every d.links players (usual d.delay is.delay) is.links;
      some_consoles = count.0;
      few_consoles = count.1;
      each = is.each;
    })

by_end : (d : Draft) (place : Place) (n : ℕ) (job : WholeJob) → IsDraft d → AreCounted place (length d.consoles)
    → job_at_place d place n ≡ Ok job → IsJob job
by_end d Start n job is count h = absurd cc
by_end d Head n job is count h = absurd cc
by_end d Inside n job is count h = absurd cc
by_end d Ended n job is count h = by_cycles d d.cycles n job is is.cycles count h

at-end : (n : ℕ) (d : Draft) (job : WholeJob) → IsDraft d → job_at_end n d ≡ Ok job → IsJob job
unfolding job_at_end
at-end n d job h end = by_end d d.place n job h h.count end

-- each job that is read is sound
pub sound : (bytes : List ℕ) (job : WholeJob) → job_of bytes ≡ Ok job → IsJob job
unfolding job_of
sound bytes job h =
    let ends : EndsIn jobs bytes (Ok job) = rw h at (says jobs bytes) in
    at-end (length (lines bytes)) ends.said job (lines-keep 0 nothing_said ends.said
    (lines bytes) begins ends.leads) ends.end

pub is_sound : {X : Type 0} (view : X → WholeJob) (bytes : List ℕ) (answer : Result X ParseRefused)
    → Parses line_error view answer (job_of bytes) → IfOk answer (λ x. IsJob (view x))
is_sound view bytes (Ok x) h = sound bytes (view x) h
is_sound view bytes (Err e) h = tt
