-- Names of outputs, piece by piece.
use Rattle.std.proofs.Common.{◌≡◌, ℕ, ◌+◌, ◌<◌, Bool, true, false, cond, ◌&&◌, ◌||◌, List, [], ◌∷◌, ◌++◌, length, take, drop, map, get_or, nat_eq, ◌≤◌, Option, Some, None, refl, ap, sym, subst, ◌∙◌, arith}
use Rattle.std.specs.List.{All, list_any}
use Rattle.std.specs.Cmp.Lexicographic.{pointwise}
use Rattle.std.specs.Prelude.{codes, decimal, option_and_then}
use Rattle.std.specs.Str.{bytes_eq}
use Rattle.std.proofs.Math.Bool.{and-false}
use Rattle.std.proofs.lemmas.List.{drop_more, drop_all, get_or-map, length-map}
use Rattle.std.proofs.lemmas.Bool.Decides.{nat_tests}
use Rattle.gba_joblog.specs.Clash.{after_text, asks_as, tail_after, ends_as, console_writes, writes, writes_as, least, console_clash, inputs_clash}
use Rattle.gba_joblog.specs.Job.{ConsoleJob}
use Rattle.gba_joblog.specs.Outputs.{all_kinds, out_name}
use Rattle.gba_joblog.specs.Statements.{asks_for}
use Rattle.gba_joblog.specs.declared.outputs.OutKind.{OutKind}

-- the bytes are this text; there may be none
abbrev pub is_text : List ℕ → Option (List ℕ) → Bool
is_text text (Some bytes) = bytes_eq bytes text
is_text text None = false

same_front : (fs ns tail : List ℕ) → bytes_eq ns (fs ++ tail) ≡ is_text tail (after_text fs ns) → (t : Bool)
    → (t && bytes_eq ns (fs ++ tail)) ≡ is_text tail (cond (t && pointwise nat_eq (take (length fs) ns) fs) (Some
    (drop (length fs) ns)) None)
same_front fs ns tail h true = h
same_front fs ns tail h false = refl

-- a name is a front and a tail just where it begins with the front, and the tail follows
pub front-tail : (front name tail : List ℕ) → bytes_eq name (front ++ tail) ≡ is_text tail (after_text front name)
front-tail [] name tail = refl
front-tail (f ∷ fs) [] tail = refl
front-tail (f ∷ fs) (n ∷ ns) tail = same_front fs ns tail (front-tail fs ns tail) (nat_eq n f)

then_text : (text front : List ℕ) (found : Option (List ℕ))
    → is_text (front ++ text) found ≡ is_text text (option_and_then (after_text front) found)
then_text text front None = refl
then_text text front (Some name) = front-tail front name text

-- the name of an output ends as it should, after OUT and the player
pub name_is : (name out digits text : List ℕ)
    → bytes_eq name (out ++ (codes "." ++ (digits ++ (codes "." ++ text)))) ≡ is_text text (tail_after out digits name)
unfolding tail_after
name_is name out digits text =
    front-tail out name (codes "." ++ (digits ++ (codes "." ++ text)))
    ∙ then_text (digits ++ (codes "." ++ text)) (codes ".") (after_text out name)
    ∙ then_text (codes "." ++ text) digits (option_and_then (after_text (codes ".")) (after_text out name))
    ∙ then_text text (codes ".") (option_and_then (after_text digits) (option_and_then (after_text (codes "."))
    (after_text out name)))

-- tests that are the same everywhere
any-same : {X : Type 0} (p q : X → Bool) (xs : List X) → ((x : X) → p x ≡ q x) → list_any p xs ≡ list_any q xs
any-same p q [] same = refl
any-same p q (x ∷ xs) same = rw (same x, any-same p q xs same) refl

any-false : {X : Type 0} (p : X → Bool) (xs : List X) → ((x : X) → p x ≡ false) → list_any p xs ≡ false
any-false p [] none = refl
any-false p (x ∷ xs) none = rw (none x) (any-false p xs none)

pub console_writes-tail : (out : List ℕ) (player : ℕ) (console : ConsoleJob) (name tail : List ℕ)
    → tail_after out (decimal player) name ≡ Some tail
    → console_writes out player console name ≡ ends_as console tail
unfolding console_writes
console_writes-tail out player console name tail e =
    let is : (kind : OutKind) → writes_as out player console name kind ≡ asks_as console tail kind =
    λ kind. ap (λ t. asks_for console kind && t)
    (name_is name out (decimal player) (out_name kind) ∙ ap (is_text (out_name kind)) e) in
    any-same (writes_as out player console name) (asks_as console tail) all_kinds is

pub console_writes-no_tail : (out : List ℕ) (player : ℕ) (console : ConsoleJob) (name : List ℕ)
    → tail_after out (decimal player) name ≡ None
    → console_writes out player console name ≡ false
unfolding console_writes
console_writes-no_tail out player console name e =
    let is : (kind : OutKind) → writes_as out player console name kind ≡ false =
    λ kind. ap (λ t. asks_for console kind && t)
    (name_is name out (decimal player) (out_name kind) ∙ ap (is_text (out_name kind)) e)
    ∙ and-false (asks_for console kind) in
    any-false (writes_as out player console name) all_kinds is

pub writes-more : (out : List ℕ) (player : ℕ) (console : ConsoleJob) (consoles : List ConsoleJob) (name : List ℕ)
    → writes out player (console ∷ consoles) name
    ≡ (console_writes out player console name || writes out (player + 1) consoles name)
unfolding writes
writes-more out player console consoles name = refl

pub writes-none : (out : List ℕ) (player : ℕ) (name : List ℕ) → writes out player [] name ≡ false
unfolding writes
writes-none out player name = refl

pub inputs_clash-none : (is_output : List ℕ → Bool) → inputs_clash is_output [] ≡ None
unfolding inputs_clash
inputs_clash-none is_output = refl

pub inputs_clash-more : (is_output : List ℕ → Bool) (console : ConsoleJob) (consoles : List ConsoleJob)
    → inputs_clash is_output (console ∷ consoles)
    ≡ least (console_clash is_output console) (inputs_clash is_output consoles)
unfolding inputs_clash
inputs_clash-more is_output console consoles = refl

pub least-none : (a : Option ℕ) → least a None ≡ a
least-none None = refl
least-none (Some l) = refl

pub least_assoc : (a b c : Option ℕ) → least (least a b) c ≡ least a (least b c)
least_assoc None b c = refl
least_assoc (Some l) None c = refl
least_assoc (Some l) (Some m) None = least-none (least (Some l) (Some m))
least_assoc (Some l) (Some m) (Some n) = grind (arith, nat_tests)

-- what is left of a list at one of its items
pub at_item : {X : Type 0} (xs : List X) (i : ℕ) (x : X) → i < length xs → x ≡ get_or xs i x
    → drop i xs ≡ x ∷ drop (i + 1) xs
at_item xs i x h e = drop_more xs i x h ∙ ap (λ y. y ∷ drop (i + 1) xs) (sym e)

-- what holds of what each item stands for holds of what this one stands for
pub holds_at : {X Y : Type 0} (P : Y → Type 0) (view : X → Y) (xs : List X) (i : ℕ) (x : X) → All P (map view xs)
    → i < length xs → x ≡ get_or xs i x → P (view x)
holds_at P view xs i x h lt is =
    subst P (get_or-map view xs i x (view x) lt ∙ ap view (sym is)) (h i (view x) (rw length-map lt))

-- a loop over the consoles, of which each stands for a value
pub writes_at : {X : Type 0} (view : X → ConsoleJob) (out name : List ℕ) (xs : List X) (i : ℕ) (x : X)
    (answer : Bool) → i < length xs → x ≡ get_or xs i x
    → answer ≡ console_writes out i (view x) name
    → writes out i (map view (drop i xs)) name ≡ (answer || writes out (i + 1) (map view (drop (i + 1) xs)) name)
writes_at view out name xs i x answer h e a = rw (at_item xs i x h e, a) (writes-more out i (view x) (map view (drop
    (i + 1) xs)) name)

pub writes_done : {X : Type 0} (view : X → ConsoleJob) (out name : List ℕ) (xs : List X) (i : ℕ) → length xs ≤ i
    → writes out i (map view (drop i xs)) name ≡ false
writes_done view out name xs i h = rw drop_all (writes-none out i name)

pub clash_at : {X : Type 0} (view : X → ConsoleJob) (is_output : List ℕ
    → Bool) (xs : List X) (i : ℕ) (x : X) (found : Option ℕ) → i < length xs → x ≡ get_or xs i x
    → least found (inputs_clash is_output (map view (drop i xs)))
    ≡ least (least found (console_clash is_output (view x))) (inputs_clash is_output (map view (drop (i + 1) xs)))
clash_at view is_output xs i x found h e =
    rw (at_item xs i x h e) (ap (least found) (inputs_clash-more is_output (view x) (map view (drop (i + 1) xs)))
    ∙ sym (least_assoc found (console_clash is_output (view x)) (inputs_clash is_output (map view (drop (i + 1) xs)))))

pub clash_done : {X : Type 0} (view : X → ConsoleJob) (is_output : List ℕ
    → Bool) (xs : List X) (i : ℕ) (found : Option ℕ) → length xs ≤ i
    → least found (inputs_clash is_output (map view (drop i xs))) ≡ found
clash_done view is_output xs i found h = rw drop_all (ap (least found) (inputs_clash-none is_output) ∙ least-none found)
