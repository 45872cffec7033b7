-- Lines of a log, one after another: what is said once they are read.
use Rattle.std.proofs.Common.{◌≡◌, ℕ, ◌+◌, ◌<◌, ◌≤◌, ◌^◌, false, List, [], ◌∷◌, ◌++◌, length, Option, Some, None, Ok, ap, ◌∙◌, arith}
use Rattle.std.specs.Prelude.{IfSome, decimal}
use Rattle.std.proofs.lemmas.List.{append_assoc, length-append}
use Rattle.gba_text.specs.Lines.{lines}
use Rattle.gba_text.specs.Words.{words}
use Rattle.hex.specs.Hex.{encode_lower}
use Rattle.gba_text.proofs.Languages.{leads_more}
use Rattle.gba_text.specs.Languages.{Leads}
use Rattle.gba_text.specs.Steps.{◌>>=◌}
use Rattle.gba_joblog.specs.Digests.{IsDigest}
use Rattle.gba_joblog.specs.Draft.{Draft, DraftConsole, silent_console}
use Rattle.gba_joblog.specs.Lines.{is_comment}
use Rattle.gba_joblog.specs.Job.{ConsoleJob}
use Rattle.gba_joblog.specs.Language.{jobs, line_says, said_with, words_say, words_say_if, plus_statement_if}
use Rattle.gba_joblog.specs.Log.{digest_words, line_of}
use Rattle.gba_joblog.specs.Operands.{LineWords}
use Rattle.gba_joblog.specs.Statements.{Statement, plus_statement}
use Rattle.gba_joblog.specs.declared.cable.Link.{Link}
use Rattle.gba_joblog.specs.declared.draft.JobVersion.{JobVersion}
use Rattle.gba_joblog.specs.declared.draft.Place.TheVariants.{Head, Inside}
use Rattle.gba_joblog.proofs.Spelling.{IsLine, IsWord, are_more, are_none, is_said-line, line_of-spaced, lines-first, spaced, text-line, words-line}
use Rattle.gba_joblog.proofs.SpelledValues.{AreWords-digest, IsWord-decimal, decimal-short, digits-long}

-- a piece of whole lines, which stand after so many others, leads from what was said to what is said after
-- so many lines
pub record Reads (n : ℕ) (d : Draft) (piece : List ℕ) (m : ℕ) (e : Draft) : Type 0 where
  pub goes : (rest : List ℕ) (f : Draft) → Leads jobs m e (lines rest) f → Leads jobs n d (lines (piece ++ rest)) f

pub reads-nothing : (n : ℕ) (d : Draft) → Reads n d [] n d
reads-nothing n d = record { goes = λ rest f h. h }

pub reads-then : (n m k : ℕ) (d e f : Draft) (p q : List ℕ) → Reads n d p m e → Reads m e q k f
    → Reads n d (p ++ q) k f
reads-then n m k d e f p q a b = record {
  goes = λ rest g h. rw append_assoc (a.goes (q ++ rest) g (b.goes rest g h));
}

line-says : (n : ℕ) (d : Draft) (front : List ℕ) (ws : LineWords) (s : Statement) → IsLine front ws
    → words_say d (front ∷ ws) ≡ Ok (Some s) → said_with n d (front ++ spaced ws) ≡ Ok (plus_statement n s d)
unfolding said_with line_says
line-says n d front ws s is says =
    let said = is_said-line front ws is in
    let all = words-line front ws is.keyword is.words in
    ap (λ a. (a >>= words_say_if d (words (front ++ spaced ws)))
    >>= (λ statement. Ok (plus_statement_if n d statement)))
    said
    ∙ ap (λ ws. words_say d ws >>= (λ statement. Ok (plus_statement_if n d statement))) all
    ∙ ap (λ a. a >>= (λ statement. Ok (plus_statement_if n d statement))) says

first-line : (front : List ℕ) (ws : LineWords) (rest : List ℕ) → IsLine front ws
    → lines (line_of front ws ++ rest) ≡ (front ++ spaced ws) ∷ lines rest
first-line front ws rest is =
    ap (λ line. lines (line ++ rest)) (line_of-spaced front ws)
    ∙ ap lines (append_assoc (front ++ spaced ws) (10 ∷ []) rest)
    ∙ lines-first (front ++ spaced ws) rest (text-line front ws is.keyword is.words)

-- one line
pub line-reads : (n : ℕ) (d : Draft) (front : List ℕ) (ws : LineWords) (s : Statement) → IsLine front ws
    → words_say d (front ∷ ws) ≡ Ok (Some s) → Reads n d (line_of front ws) (n + 1) (plus_statement (n + 1) s d)
line-reads n d front ws s is says = record {
  goes = λ rest f h.
      rw (first-line front ws rest is)
      (leads_more jobs n d (plus_statement (n + 1) s d) f (front ++ spaced ws) (lines rest)
      (line-says (n + 1) d front ws s is says) h);
}

-- a line of a keyword and a number
pub number-line : (front : List ℕ) (n : ℕ) → IsWord front → is_comment (front ++ spaced (decimal n ∷ [])) ≡ false
    → length front ≤ 8 → n < 2 ^ 64 → IsLine front (decimal n ∷ [])
number-line front n is plain short small = record {
  keyword = is;
  words = are_more (decimal n) [] (IsWord-decimal n small) are_none;
  plain = plain;
  short =
      omega (arith, length-append front (32 ∷ (decimal n ++ [])), length-append (decimal n) [], decimal-short n small);
}

stated-short : (stated : Option (List ℕ)) → IfSome stated IsDigest → length (spaced (digest_words stated)) ≤ 72
stated-short None is = omega arith
stated-short (Some digest) is = omega (arith, length-append (encode_lower digest) [], digits-long digest is)

-- a line of a keyword, a name, and what is stated of it
pub stated-line : (front name : List ℕ) (stated : Option (List ℕ)) → IsWord front → IsWord name
    → is_comment (front ++ spaced (name ∷ digest_words stated)) ≡ false → length front ≤ 8 → length name ≤ 200
    → IfSome stated IsDigest → IsLine front (name ∷ digest_words stated)
stated-line front name stated is named plain short few right = record {
  keyword = is;
  words = are_more name (digest_words stated) named (AreWords-digest stated right);
  plain = plain;
  short = omega (
    arith,
    length-append front (32 ∷ (name ++ spaced (digest_words stated))),
    length-append name (spaced (digest_words stated)),
    stated-short stated right,
  );
}

-- what the lines before the first console have said
pub record Top : Type 0 where
  pub version : JobVersion
  pub cycles : ℕ
  pub delay : Option ℕ
  pub links : List Link

-- before the first console, and inside of one
abbrev pub head : Top → Draft
head top = record {
  version = top.version;
  place = Head;
  cycles = Some top.cycles;
  delay = top.delay;
  links = top.links;
  consoles = [];
  last = silent_console;
}

abbrev pub inside : Top → List ConsoleJob → DraftConsole → Draft
inside top whole last = record {
  version = top.version;
  place = Inside;
  cycles = Some top.cycles;
  delay = top.delay;
  links = top.links;
  consoles = whole;
  last = last;
}
