-- The assembler takes the names of ARM statements for what they name.
use Rattle.std.proofs.Common.{◌≡◌, ℕ, Bool, true, false, cond, ◌&&◌, ◌==◌, nat_lt, List, [], ◌∷◌, ◌++◌, length, codes, Some, Ok, refl, ap, ◌∙◌, arith}
use Rattle.std.proofs.lemmas.Bool.Decides.{nat_tests}
use Rattle.gba_arm_table.specs.declared.operation.CompareOp.{CompareOp}
use Rattle.gba_arm_table.specs.declared.operation.CompareOp.TheVariants.{Tst, Teq, Cmp, Cmn}
use Rattle.gba_arm_table.specs.declared.operation.ComputeOp.{ComputeOp}
use Rattle.gba_arm_table.specs.declared.operation.ComputeOp.TheVariants.{And, Eor, Sub, Rsb, Add, Adc, Sbc, Rsc, Orr, Mov, Bic, Mvn}
use Rattle.gba_arm_table.specs.declared.operation.Condition.{Condition}
use Rattle.gba_arm_table.specs.declared.operation.Condition.TheVariants.{Equal, NotEqual, CarrySet, CarryClear, Minus, Plus, Overflow, NoOverflow, Higher, LowerOrSame, GreaterOrEqual, Less, Greater, LessOrEqual, Always, Never}
use Rattle.gba_arm_table.specs.declared.operation.HalfKind.{HalfKind}
use Rattle.gba_arm_table.specs.declared.operation.HalfKind.TheVariants.{StoreHalf, LoadHalf, LoadSignedByte, LoadSignedHalf}
use Rattle.gba_asm_words.specs.Tokens.{Token}
use Rattle.gba_asm_arm.specs.Forms.{accumulate_form, arm_statement, block_form, branch_form, compare_form, compute_form, exchange_form, form_of, half_form, interrupt_form, long_form, multiply_form, read_status_form, swap_form, transfer_form, write_status_form}
use Rattle.gba_asm_arm.specs.Names.{arm_name, compare_of, compute_of, long_base, long_name, mnemonic_of, other_of, three_name, with_tail}
use Rattle.gba_asm_arm.specs.Tails.{condition_first, condition_of, conditioned, suffix_of}
use Rattle.gba_dis.specs.Arm.{block_base, block_suffix, branch_base, compare_text, compute_text, condition_text, half_base, half_suffix, letters_if, transfer_base, transfer_suffix}
use Rattle.gba_dis.specs.Arm as listed
use Rattle.gba_dis.specs.Law.{is_never}

long_3 : (a b c : ℕ) (xs : List ℕ) → nat_lt (length (a ∷ b ∷ c ∷ xs)) 3 ≡ false
long_3 a b c xs = grind (arith, nat_tests)

long_5 : (a b c d e : ℕ) (xs : List ℕ) → nat_lt (length (a ∷ b ∷ c ∷ d ∷ e ∷ xs)) 5 ≡ false
long_5 a b c d e xs = grind (arith, nat_tests)

tail_none : (c : Condition) → is_never c ≡ false
    → condition_first (condition_text c ++ codes "") ≡ conditioned c (codes "")
unfolding condition_first condition_of
tail_none Equal h = refl
tail_none NotEqual h = refl
tail_none CarrySet h = refl
tail_none CarryClear h = refl
tail_none Minus h = refl
tail_none Plus h = refl
tail_none Overflow h = refl
tail_none NoOverflow h = refl
tail_none Higher h = refl
tail_none LowerOrSame h = refl
tail_none GreaterOrEqual h = refl
tail_none Less h = refl
tail_none Greater h = refl
tail_none LessOrEqual h = refl
tail_none Always h = refl
tail_none Never h = absurd cc

tail_s : (c : Condition) → is_never c ≡ false
    → condition_first (condition_text c ++ codes "s") ≡ conditioned c (codes "s")
unfolding condition_first condition_of
tail_s Equal h = refl
tail_s NotEqual h = refl
tail_s CarrySet h = refl
tail_s CarryClear h = refl
tail_s Minus h = refl
tail_s Plus h = refl
tail_s Overflow h = refl
tail_s NoOverflow h = refl
tail_s Higher h = refl
tail_s LowerOrSame h = refl
tail_s GreaterOrEqual h = refl
tail_s Less h = refl
tail_s Greater h = refl
tail_s LessOrEqual h = refl
tail_s Always h = refl
tail_s Never h = absurd cc

tail_b : (c : Condition) → is_never c ≡ false
    → condition_first (condition_text c ++ codes "b") ≡ conditioned c (codes "b")
unfolding condition_first condition_of
tail_b Equal h = refl
tail_b NotEqual h = refl
tail_b CarrySet h = refl
tail_b CarryClear h = refl
tail_b Minus h = refl
tail_b Plus h = refl
tail_b Overflow h = refl
tail_b NoOverflow h = refl
tail_b Higher h = refl
tail_b LowerOrSame h = refl
tail_b GreaterOrEqual h = refl
tail_b Less h = refl
tail_b Greater h = refl
tail_b LessOrEqual h = refl
tail_b Always h = refl
tail_b Never h = absurd cc

tail_t : (c : Condition) → is_never c ≡ false
    → condition_first (condition_text c ++ codes "t") ≡ conditioned c (codes "t")
unfolding condition_first condition_of
tail_t Equal h = refl
tail_t NotEqual h = refl
tail_t CarrySet h = refl
tail_t CarryClear h = refl
tail_t Minus h = refl
tail_t Plus h = refl
tail_t Overflow h = refl
tail_t NoOverflow h = refl
tail_t Higher h = refl
tail_t LowerOrSame h = refl
tail_t GreaterOrEqual h = refl
tail_t Less h = refl
tail_t Greater h = refl
tail_t LessOrEqual h = refl
tail_t Always h = refl
tail_t Never h = absurd cc

tail_bt : (c : Condition) → is_never c ≡ false
    → condition_first (condition_text c ++ codes "bt") ≡ conditioned c (codes "bt")
unfolding condition_first condition_of
tail_bt Equal h = refl
tail_bt NotEqual h = refl
tail_bt CarrySet h = refl
tail_bt CarryClear h = refl
tail_bt Minus h = refl
tail_bt Plus h = refl
tail_bt Overflow h = refl
tail_bt NoOverflow h = refl
tail_bt Higher h = refl
tail_bt LowerOrSame h = refl
tail_bt GreaterOrEqual h = refl
tail_bt Less h = refl
tail_bt Greater h = refl
tail_bt LessOrEqual h = refl
tail_bt Always h = refl
tail_bt Never h = absurd cc

tail_h : (c : Condition) → is_never c ≡ false
    → condition_first (condition_text c ++ codes "h") ≡ conditioned c (codes "h")
unfolding condition_first condition_of
tail_h Equal h = refl
tail_h NotEqual h = refl
tail_h CarrySet h = refl
tail_h CarryClear h = refl
tail_h Minus h = refl
tail_h Plus h = refl
tail_h Overflow h = refl
tail_h NoOverflow h = refl
tail_h Higher h = refl
tail_h LowerOrSame h = refl
tail_h GreaterOrEqual h = refl
tail_h Less h = refl
tail_h Greater h = refl
tail_h LessOrEqual h = refl
tail_h Always h = refl
tail_h Never h = absurd cc

tail_sb : (c : Condition) → is_never c ≡ false
    → condition_first (condition_text c ++ codes "sb") ≡ conditioned c (codes "sb")
unfolding condition_first condition_of
tail_sb Equal h = refl
tail_sb NotEqual h = refl
tail_sb CarrySet h = refl
tail_sb CarryClear h = refl
tail_sb Minus h = refl
tail_sb Plus h = refl
tail_sb Overflow h = refl
tail_sb NoOverflow h = refl
tail_sb Higher h = refl
tail_sb LowerOrSame h = refl
tail_sb GreaterOrEqual h = refl
tail_sb Less h = refl
tail_sb Greater h = refl
tail_sb LessOrEqual h = refl
tail_sb Always h = refl
tail_sb Never h = absurd cc

tail_sh : (c : Condition) → is_never c ≡ false
    → condition_first (condition_text c ++ codes "sh") ≡ conditioned c (codes "sh")
unfolding condition_first condition_of
tail_sh Equal h = refl
tail_sh NotEqual h = refl
tail_sh CarrySet h = refl
tail_sh CarryClear h = refl
tail_sh Minus h = refl
tail_sh Plus h = refl
tail_sh Overflow h = refl
tail_sh NoOverflow h = refl
tail_sh Higher h = refl
tail_sh LowerOrSame h = refl
tail_sh GreaterOrEqual h = refl
tail_sh Less h = refl
tail_sh Greater h = refl
tail_sh LessOrEqual h = refl
tail_sh Always h = refl
tail_sh Never h = absurd cc

tail_ia : (c : Condition) → is_never c ≡ false
    → condition_first (condition_text c ++ codes "ia") ≡ conditioned c (codes "ia")
unfolding condition_first condition_of
tail_ia Equal h = refl
tail_ia NotEqual h = refl
tail_ia CarrySet h = refl
tail_ia CarryClear h = refl
tail_ia Minus h = refl
tail_ia Plus h = refl
tail_ia Overflow h = refl
tail_ia NoOverflow h = refl
tail_ia Higher h = refl
tail_ia LowerOrSame h = refl
tail_ia GreaterOrEqual h = refl
tail_ia Less h = refl
tail_ia Greater h = refl
tail_ia LessOrEqual h = refl
tail_ia Always h = refl
tail_ia Never h = absurd cc

tail_ib : (c : Condition) → is_never c ≡ false
    → condition_first (condition_text c ++ codes "ib") ≡ conditioned c (codes "ib")
unfolding condition_first condition_of
tail_ib Equal h = refl
tail_ib NotEqual h = refl
tail_ib CarrySet h = refl
tail_ib CarryClear h = refl
tail_ib Minus h = refl
tail_ib Plus h = refl
tail_ib Overflow h = refl
tail_ib NoOverflow h = refl
tail_ib Higher h = refl
tail_ib LowerOrSame h = refl
tail_ib GreaterOrEqual h = refl
tail_ib Less h = refl
tail_ib Greater h = refl
tail_ib LessOrEqual h = refl
tail_ib Always h = refl
tail_ib Never h = absurd cc

tail_da : (c : Condition) → is_never c ≡ false
    → condition_first (condition_text c ++ codes "da") ≡ conditioned c (codes "da")
unfolding condition_first condition_of
tail_da Equal h = refl
tail_da NotEqual h = refl
tail_da CarrySet h = refl
tail_da CarryClear h = refl
tail_da Minus h = refl
tail_da Plus h = refl
tail_da Overflow h = refl
tail_da NoOverflow h = refl
tail_da Higher h = refl
tail_da LowerOrSame h = refl
tail_da GreaterOrEqual h = refl
tail_da Less h = refl
tail_da Greater h = refl
tail_da LessOrEqual h = refl
tail_da Always h = refl
tail_da Never h = absurd cc

tail_db : (c : Condition) → is_never c ≡ false
    → condition_first (condition_text c ++ codes "db") ≡ conditioned c (codes "db")
unfolding condition_first condition_of
tail_db Equal h = refl
tail_db NotEqual h = refl
tail_db CarrySet h = refl
tail_db CarryClear h = refl
tail_db Minus h = refl
tail_db Plus h = refl
tail_db Overflow h = refl
tail_db NoOverflow h = refl
tail_db Higher h = refl
tail_db LowerOrSame h = refl
tail_db GreaterOrEqual h = refl
tail_db Less h = refl
tail_db Greater h = refl
tail_db LessOrEqual h = refl
tail_db Always h = refl
tail_db Never h = absurd cc

pub multiply_named : (c : Condition) (set : Bool) (ts : List Token) → is_never c ≡ false
    → arm_statement (codes "mul" ++ condition_text c ++ letters_if set (codes "s")) ts ≡ multiply_form c set ts
unfolding arm_statement arm_name three_name with_tail compute_of compare_of other_of suffix_of mnemonic_of form_of
multiply_named c true ts h = rw (long_3 109 117 108 (condition_text c ++ codes "s"), tail_s c h) refl
multiply_named c false ts h = rw (long_3 109 117 108 (condition_text c ++ codes ""), tail_none c h) refl

pub accumulate_named : (c : Condition) (set : Bool) (ts : List Token) → is_never c ≡ false
    → arm_statement (codes "mla" ++ condition_text c ++ letters_if set (codes "s")) ts ≡ accumulate_form c set ts
unfolding arm_statement arm_name three_name with_tail compute_of compare_of other_of suffix_of mnemonic_of form_of
accumulate_named c true ts h = rw (long_3 109 108 97 (condition_text c ++ codes "s"), tail_s c h) refl
accumulate_named c false ts h = rw (long_3 109 108 97 (condition_text c ++ codes ""), tail_none c h) refl

pub swap_named : (c : Condition) (byte : Bool) (ts : List Token) → is_never c ≡ false
    → arm_statement (codes "swp" ++ condition_text c ++ letters_if byte (codes "b")) ts ≡ swap_form c byte ts
unfolding arm_statement arm_name three_name with_tail compute_of compare_of other_of suffix_of mnemonic_of form_of
swap_named c true ts h = rw (long_3 115 119 112 (condition_text c ++ codes "b"), tail_b c h) refl
swap_named c false ts h = rw (long_3 115 119 112 (condition_text c ++ codes ""), tail_none c h) refl

pub mrs_named : (c : Condition) (ts : List Token) → is_never c ≡ false
    → arm_statement (codes "mrs" ++ condition_text c ++ []) ts ≡ read_status_form c ts
unfolding arm_statement arm_name three_name with_tail compute_of compare_of other_of suffix_of mnemonic_of form_of
mrs_named c ts h = rw (long_3 109 114 115 (condition_text c ++ codes ""), tail_none c h) refl

pub msr_named : (c : Condition) (ts : List Token) → is_never c ≡ false
    → arm_statement (codes "msr" ++ condition_text c ++ []) ts ≡ write_status_form c ts
unfolding arm_statement arm_name three_name with_tail compute_of compare_of other_of suffix_of mnemonic_of form_of
msr_named c ts h = rw (long_3 109 115 114 (condition_text c ++ codes ""), tail_none c h) refl

pub swi_named : (c : Condition) (ts : List Token) → is_never c ≡ false
    → arm_statement (codes "swi" ++ condition_text c ++ []) ts ≡ interrupt_form c ts
unfolding arm_statement arm_name three_name with_tail compute_of compare_of other_of suffix_of mnemonic_of form_of
swi_named c ts h = rw (long_3 115 119 105 (condition_text c ++ codes ""), tail_none c h) refl

pub compare_named : (c : Condition) (op : CompareOp) (ts : List Token) → is_never c ≡ false
    → arm_statement (compare_text op ++ condition_text c ++ []) ts ≡ compare_form c op ts
unfolding arm_statement arm_name three_name with_tail compute_of compare_of other_of suffix_of mnemonic_of form_of
compare_named c Tst ts h = rw (long_3 116 115 116 (condition_text c ++ codes ""), tail_none c h) refl
compare_named c Teq ts h = rw (long_3 116 101 113 (condition_text c ++ codes ""), tail_none c h) refl
compare_named c Cmp ts h = rw (long_3 99 109 112 (condition_text c ++ codes ""), tail_none c h) refl
compare_named c Cmn ts h = rw (long_3 99 109 110 (condition_text c ++ codes ""), tail_none c h) refl

bic_named : (c : Condition) (set : Bool) (ts : List Token) → is_never c ≡ false
    → arm_statement (codes "bic" ++ condition_text c ++ letters_if set (codes "s")) ts ≡ compute_form c Bic set ts
unfolding arm_statement arm_name three_name with_tail compute_of compare_of other_of suffix_of mnemonic_of form_of
    condition_first condition_of
bic_named Equal true ts h = refl
bic_named NotEqual true ts h = refl
bic_named CarrySet true ts h = refl
bic_named CarryClear true ts h = refl
bic_named Minus true ts h = refl
bic_named Plus true ts h = refl
bic_named Overflow true ts h = refl
bic_named NoOverflow true ts h = refl
bic_named Higher true ts h = refl
bic_named LowerOrSame true ts h = refl
bic_named GreaterOrEqual true ts h = refl
bic_named Less true ts h = refl
bic_named Greater true ts h = refl
bic_named LessOrEqual true ts h = refl
bic_named Always true ts h = refl
bic_named Equal false ts h = refl
bic_named NotEqual false ts h = refl
bic_named CarrySet false ts h = refl
bic_named CarryClear false ts h = refl
bic_named Minus false ts h = refl
bic_named Plus false ts h = refl
bic_named Overflow false ts h = refl
bic_named NoOverflow false ts h = refl
bic_named Higher false ts h = refl
bic_named LowerOrSame false ts h = refl
bic_named GreaterOrEqual false ts h = refl
bic_named Less false ts h = refl
bic_named Greater false ts h = refl
bic_named LessOrEqual false ts h = refl
bic_named Always false ts h = refl
bic_named Never set ts h = absurd cc

pub compute_named : (c : Condition) (op : ComputeOp) (set : Bool) (ts : List Token) → is_never c ≡ false
    → arm_statement (compute_text op ++ condition_text c ++ letters_if set (codes "s")) ts ≡ compute_form c op set ts
unfolding arm_statement arm_name three_name with_tail compute_of compare_of other_of suffix_of mnemonic_of form_of
compute_named c And true ts h = rw (long_3 97 110 100 (condition_text c ++ codes "s"), tail_s c h) refl
compute_named c And false ts h = rw (long_3 97 110 100 (condition_text c ++ codes ""), tail_none c h) refl
compute_named c Eor true ts h = rw (long_3 101 111 114 (condition_text c ++ codes "s"), tail_s c h) refl
compute_named c Eor false ts h = rw (long_3 101 111 114 (condition_text c ++ codes ""), tail_none c h) refl
compute_named c Sub true ts h = rw (long_3 115 117 98 (condition_text c ++ codes "s"), tail_s c h) refl
compute_named c Sub false ts h = rw (long_3 115 117 98 (condition_text c ++ codes ""), tail_none c h) refl
compute_named c Rsb true ts h = rw (long_3 114 115 98 (condition_text c ++ codes "s"), tail_s c h) refl
compute_named c Rsb false ts h = rw (long_3 114 115 98 (condition_text c ++ codes ""), tail_none c h) refl
compute_named c Add true ts h = rw (long_3 97 100 100 (condition_text c ++ codes "s"), tail_s c h) refl
compute_named c Add false ts h = rw (long_3 97 100 100 (condition_text c ++ codes ""), tail_none c h) refl
compute_named c Adc true ts h = rw (long_3 97 100 99 (condition_text c ++ codes "s"), tail_s c h) refl
compute_named c Adc false ts h = rw (long_3 97 100 99 (condition_text c ++ codes ""), tail_none c h) refl
compute_named c Sbc true ts h = rw (long_3 115 98 99 (condition_text c ++ codes "s"), tail_s c h) refl
compute_named c Sbc false ts h = rw (long_3 115 98 99 (condition_text c ++ codes ""), tail_none c h) refl
compute_named c Rsc true ts h = rw (long_3 114 115 99 (condition_text c ++ codes "s"), tail_s c h) refl
compute_named c Rsc false ts h = rw (long_3 114 115 99 (condition_text c ++ codes ""), tail_none c h) refl
compute_named c Orr true ts h = rw (long_3 111 114 114 (condition_text c ++ codes "s"), tail_s c h) refl
compute_named c Orr false ts h = rw (long_3 111 114 114 (condition_text c ++ codes ""), tail_none c h) refl
compute_named c Mov true ts h = rw (long_3 109 111 118 (condition_text c ++ codes "s"), tail_s c h) refl
compute_named c Mov false ts h = rw (long_3 109 111 118 (condition_text c ++ codes ""), tail_none c h) refl
compute_named c Bic true ts h = bic_named c true ts h
compute_named c Bic false ts h = bic_named c false ts h
compute_named c Mvn true ts h = rw (long_3 109 118 110 (condition_text c ++ codes "s"), tail_s c h) refl
compute_named c Mvn false ts h = rw (long_3 109 118 110 (condition_text c ++ codes ""), tail_none c h) refl

pub transfer_named : (c : Condition) (load byte user : Bool) (ts : List Token) → is_never c ≡ false
    → arm_statement (transfer_base load ++ condition_text c ++ transfer_suffix byte user) ts
    ≡ transfer_form c load byte user ts
unfolding arm_statement arm_name three_name with_tail compute_of compare_of other_of suffix_of mnemonic_of form_of
transfer_named c true true true ts h = rw (long_3 108 100 114 (condition_text c ++ codes "bt"), tail_bt c h) refl
transfer_named c true true false ts h = rw (long_3 108 100 114 (condition_text c ++ codes "b"), tail_b c h) refl
transfer_named c true false true ts h = rw (long_3 108 100 114 (condition_text c ++ codes "t"), tail_t c h) refl
transfer_named c true false false ts h = rw (long_3 108 100 114 (condition_text c ++ codes ""), tail_none c h) refl
transfer_named c false true true ts h = rw (long_3 115 116 114 (condition_text c ++ codes "bt"), tail_bt c h) refl
transfer_named c false true false ts h = rw (long_3 115 116 114 (condition_text c ++ codes "b"), tail_b c h) refl
transfer_named c false false true ts h = rw (long_3 115 116 114 (condition_text c ++ codes "t"), tail_t c h) refl
transfer_named c false false false ts h = rw (long_3 115 116 114 (condition_text c ++ codes ""), tail_none c h) refl

pub half_named : (c : Condition) (kind : HalfKind) (ts : List Token) → is_never c ≡ false
    → arm_statement (half_base kind ++ condition_text c ++ half_suffix kind) ts ≡ half_form c kind ts
unfolding arm_statement arm_name three_name with_tail compute_of compare_of other_of suffix_of mnemonic_of form_of
half_named c StoreHalf ts h = rw (long_3 115 116 114 (condition_text c ++ codes "h"), tail_h c h) refl
half_named c LoadHalf ts h = rw (long_3 108 100 114 (condition_text c ++ codes "h"), tail_h c h) refl
half_named c LoadSignedByte ts h = rw (long_3 108 100 114 (condition_text c ++ codes "sb"), tail_sb c h) refl
half_named c LoadSignedHalf ts h = rw (long_3 108 100 114 (condition_text c ++ codes "sh"), tail_sh c h) refl

pub block_named : (c : Condition) (load pre up : Bool) (ts : List Token) → is_never c ≡ false
    → arm_statement (block_base load ++ condition_text c ++ block_suffix pre up) ts ≡ block_form c load pre up ts
unfolding arm_statement arm_name three_name with_tail compute_of compare_of other_of suffix_of mnemonic_of form_of
block_named c true true true ts h = rw (long_3 108 100 109 (condition_text c ++ codes "ib"), tail_ib c h) refl
block_named c true true false ts h = rw (long_3 108 100 109 (condition_text c ++ codes "db"), tail_db c h) refl
block_named c true false true ts h = rw (long_3 108 100 109 (condition_text c ++ codes "ia"), tail_ia c h) refl
block_named c true false false ts h = rw (long_3 108 100 109 (condition_text c ++ codes "da"), tail_da c h) refl
block_named c false true true ts h = rw (long_3 115 116 109 (condition_text c ++ codes "ib"), tail_ib c h) refl
block_named c false true false ts h = rw (long_3 115 116 109 (condition_text c ++ codes "db"), tail_db c h) refl
block_named c false false true ts h = rw (long_3 115 116 109 (condition_text c ++ codes "ia"), tail_ia c h) refl
block_named c false false false ts h = rw (long_3 115 116 109 (condition_text c ++ codes "da"), tail_da c h) refl

pub long_named : (c : Condition) (signed accumulate set : Bool) (ts : List Token) → is_never c ≡ false
    → arm_statement (listed.long_base signed accumulate ++ condition_text c ++ letters_if set (codes "s")) ts
    ≡ long_form c signed accumulate set ts
unfolding arm_statement arm_name three_name long_name long_base with_tail compute_of compare_of other_of suffix_of
    mnemonic_of form_of
long_named c false false true ts h =
    rw (
      long_3 117 109 117 (108 ∷ 108 ∷ condition_text c ++ codes "s"),
      long_5 117 109 117 108 108 (condition_text c ++ codes "s"),
      tail_s c h,
    ) refl
long_named c false false false ts h =
    rw (
      long_3 117 109 117 (108 ∷ 108 ∷ condition_text c ++ codes ""),
      long_5 117 109 117 108 108 (condition_text c ++ codes ""),
      tail_none c h,
    ) refl
long_named c false true true ts h =
    rw (
      long_3 117 109 108 (97 ∷ 108 ∷ condition_text c ++ codes "s"),
      long_5 117 109 108 97 108 (condition_text c ++ codes "s"),
      tail_s c h,
    ) refl
long_named c false true false ts h =
    rw (
      long_3 117 109 108 (97 ∷ 108 ∷ condition_text c ++ codes ""),
      long_5 117 109 108 97 108 (condition_text c ++ codes ""),
      tail_none c h,
    ) refl
long_named c true false true ts h =
    rw (
      long_3 115 109 117 (108 ∷ 108 ∷ condition_text c ++ codes "s"),
      long_5 115 109 117 108 108 (condition_text c ++ codes "s"),
      tail_s c h,
    ) refl
long_named c true false false ts h =
    rw (
      long_3 115 109 117 (108 ∷ 108 ∷ condition_text c ++ codes ""),
      long_5 115 109 117 108 108 (condition_text c ++ codes ""),
      tail_none c h,
    ) refl
long_named c true true true ts h =
    rw (
      long_3 115 109 108 (97 ∷ 108 ∷ condition_text c ++ codes "s"),
      long_5 115 109 108 97 108 (condition_text c ++ codes "s"),
      tail_s c h,
    ) refl
long_named c true true false ts h =
    rw (
      long_3 115 109 108 (97 ∷ 108 ∷ condition_text c ++ codes ""),
      long_5 115 109 108 97 108 (condition_text c ++ codes ""),
      tail_none c h,
    ) refl

pub bx_named : (c : Condition) (ts : List Token) → is_never c ≡ false
    → arm_statement (codes "bx" ++ condition_text c ++ []) ts ≡ exchange_form c ts
unfolding arm_statement arm_name condition_of form_of
bx_named Equal ts h = refl
bx_named NotEqual ts h = refl
bx_named CarrySet ts h = refl
bx_named CarryClear ts h = refl
bx_named Minus ts h = refl
bx_named Plus ts h = refl
bx_named Overflow ts h = refl
bx_named NoOverflow ts h = refl
bx_named Higher ts h = refl
bx_named LowerOrSame ts h = refl
bx_named GreaterOrEqual ts h = refl
bx_named Less ts h = refl
bx_named Greater ts h = refl
bx_named LessOrEqual ts h = refl
bx_named Always ts h = refl
bx_named Never ts h = absurd cc

pub b_named : (c : Condition) (ts : List Token) → is_never c ≡ false
    → arm_statement (codes "b" ++ condition_text c ++ []) ts ≡ branch_form c false ts
unfolding arm_statement arm_name condition_of form_of
b_named Equal ts h = refl
b_named NotEqual ts h = refl
b_named CarrySet ts h = refl
b_named CarryClear ts h = refl
b_named Minus ts h = refl
b_named Plus ts h = refl
b_named Overflow ts h = refl
b_named NoOverflow ts h = refl
b_named Higher ts h = refl
b_named LowerOrSame ts h = refl
b_named GreaterOrEqual ts h = refl
b_named Less ts h = refl
b_named Greater ts h = refl
b_named LessOrEqual ts h = refl
b_named Always ts h = refl
b_named Never ts h = absurd cc

pub bl_named : (c : Condition) (ts : List Token) → is_never c ≡ false
    → arm_statement (codes "bl" ++ condition_text c ++ []) ts ≡ branch_form c true ts
unfolding arm_statement arm_name condition_of form_of
bl_named Equal ts h = refl
bl_named NotEqual ts h = refl
bl_named CarrySet ts h = refl
bl_named CarryClear ts h = refl
bl_named Minus ts h = refl
bl_named Plus ts h = refl
bl_named Overflow ts h = refl
bl_named NoOverflow ts h = refl
bl_named Higher ts h = refl
bl_named LowerOrSame ts h = refl
bl_named GreaterOrEqual ts h = refl
bl_named Less ts h = refl
bl_named Greater ts h = refl
bl_named LessOrEqual ts h = refl
bl_named Always ts h = refl
bl_named Never ts h = absurd cc
