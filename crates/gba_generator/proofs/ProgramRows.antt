-- The lines of the program, each with its label, its place and its word.
use Rattle.std.proofs.Common.{List, ◌∷◌, codes, refl}
use Rattle.gba_asm_words.specs.Names.{low_register_of, high_register_of, register_of, is_label}
use Rattle.gba_asm_words.specs.Numbers.{decimal_of, hexadecimal_of, number_of}
use Rattle.gba_asm_words.specs.Readers.{register_at, next_register_at, number_at, immediate_at, next_immediate_at, target_of, target_at}
use Rattle.gba_asm_words.specs.Tokens.{tokens, fault_of}
use Rattle.gba_asm_arm.specs.Forms.{move_form, three_form, compare_form, accumulate_form, load_form, transfer_form, access_form, half_form, branch_form, form_of, arm_statement}
use Rattle.gba_asm_arm.specs.Names.{compute_of, compare_of, other_of, long_base, mnemonic_of, with_tail, long_name, three_name, arm_name}
use Rattle.gba_asm_arm.specs.Operands.{least_turn_from, least_turn, shift_name_of, shift_name_at, shifted_by, shifted_as, register_operand, second_at, next_second_at}
use Rattle.gba_asm_arm.specs.Placing.{operation_at}
use Rattle.gba_asm_arm.specs.Tails.{condition_of, condition_first, suffix_of}
use Rattle.gba_asm_arm.specs.Transfers.{number_distance, register_distance, distance_at, after_access, past_bracket, indexed, in_brackets, address_at}
use Rattle.gba_asm.specs.Directives.{directive_of, are_items, count_words}
use Rattle.gba_asm.specs.Encoding.{arm_word, item_bytes, items_bytes, statement_bytes}
use Rattle.gba_asm.specs.Places.{place_after}
use Rattle.gba_asm.specs.Statements.{split_label, directive_form, statement_of, line_says, label_of, size_of}
use Rattle.gba_asm.specs.Assembly.{line_bytes}
use Rattle.gba_arm_table.specs.Encoding.{encoding}
use Rattle.gba_generator.proofs.Rows.{AreRows, IsRow, Row, labelled, plain}

-- the lines of the program before these
abbrev pub program_rows : List Row → List Row
program_rows last =
    plain (codes "        mov r4, #0x04000000") 3818930945
    ∷ plain (codes "        add r5, r4, #0x100") 3800325121
    ∷ plain (codes "        mov r0, #0") 3818913792
    ∷ plain (codes "        strh r0, [r5, #0x34]") 3787785140
    ∷ plain (codes "        ldr r0, mode") 3852402748
    ∷ plain (codes "        strh r0, [r5, #0x28]") 3787784888
    ∷ plain (codes "        ldr r6, seed") 3852427332
    ∷ plain (codes "        ldr r7, factor") 3852431416
    ∷ plain (codes "        ldr r8, adder") 3852435512
    ∷ labelled (codes "again") (codes "again:  mla r9, r6, r7, r8") 3760818070
    ∷ plain (codes "        mov r6, r9") 3785383945
    ∷ plain (codes "        mov r0, r6, lsr #16") 3785361446
    ∷ plain (codes "        strh r0, [r5, #0x2a]") 3787784890
    ∷ labelled (codes "hold") (codes "hold:   ldrh r0, [r5, #0x28]") 3788833464
    ∷ plain (codes "        tst r0, #0x80") 3809476736
    ∷ plain (codes "        bne hold") 452984828
    ∷ plain (codes "        tst r0, #8") 3809476616
    ∷ plain (codes "        beq hold") 184549370
    ∷ plain (codes "        ldr r0, go") 3852402696
    ∷ plain (codes "        strh r0, [r5, #0x28]") 3787784888
    ∷ plain (codes "        b again") 3942645747
    ∷ labelled (codes "mode") (codes "mode:   .word 0x2003") 8195
    ∷ labelled (codes "go") (codes "go:     .word 0x2083") 8323
    ∷ labelled (codes "factor") (codes "factor: .word 1664525") 1664525
    ∷ labelled (codes "adder") (codes "adder:  .word 1013904223") 1013904223 ∷ last

line-1 : IsRow 1 0 (plain (codes "        mov r4, #0x04000000") 3818930945)
unfolding low_register_of high_register_of register_of is_label decimal_of hexadecimal_of number_of register_at
    next_register_at number_at immediate_at next_immediate_at target_of target_at tokens fault_of move_form three_form
    compare_form accumulate_form load_form transfer_form access_form half_form branch_form form_of arm_statement
    compute_of compare_of other_of long_base mnemonic_of with_tail long_name three_name arm_name least_turn_from
    least_turn shift_name_of shift_name_at shifted_by shifted_as register_operand second_at next_second_at operation_at
    condition_of condition_first suffix_of number_distance register_distance distance_at after_access past_bracket
    indexed in_brackets address_at directive_of are_items count_words arm_word item_bytes items_bytes statement_bytes
    place_after split_label directive_form statement_of line_says label_of size_of line_bytes encoding
line-1 = record { label = refl; place = refl; bytes = refl }

line-2 : IsRow 2 4 (plain (codes "        add r5, r4, #0x100") 3800325121)
unfolding low_register_of high_register_of register_of is_label decimal_of hexadecimal_of number_of register_at
    next_register_at number_at immediate_at next_immediate_at target_of target_at tokens fault_of move_form three_form
    compare_form accumulate_form load_form transfer_form access_form half_form branch_form form_of arm_statement
    compute_of compare_of other_of long_base mnemonic_of with_tail long_name three_name arm_name least_turn_from
    least_turn shift_name_of shift_name_at shifted_by shifted_as register_operand second_at next_second_at operation_at
    condition_of condition_first suffix_of number_distance register_distance distance_at after_access past_bracket
    indexed in_brackets address_at directive_of are_items count_words arm_word item_bytes items_bytes statement_bytes
    place_after split_label directive_form statement_of line_says label_of size_of line_bytes encoding
line-2 = record { label = refl; place = refl; bytes = refl }

line-3 : IsRow 3 8 (plain (codes "        mov r0, #0") 3818913792)
unfolding low_register_of high_register_of register_of is_label decimal_of hexadecimal_of number_of register_at
    next_register_at number_at immediate_at next_immediate_at target_of target_at tokens fault_of move_form three_form
    compare_form accumulate_form load_form transfer_form access_form half_form branch_form form_of arm_statement
    compute_of compare_of other_of long_base mnemonic_of with_tail long_name three_name arm_name least_turn_from
    least_turn shift_name_of shift_name_at shifted_by shifted_as register_operand second_at next_second_at operation_at
    condition_of condition_first suffix_of number_distance register_distance distance_at after_access past_bracket
    indexed in_brackets address_at directive_of are_items count_words arm_word item_bytes items_bytes statement_bytes
    place_after split_label directive_form statement_of line_says label_of size_of line_bytes encoding
line-3 = record { label = refl; place = refl; bytes = refl }

line-4 : IsRow 4 12 (plain (codes "        strh r0, [r5, #0x34]") 3787785140)
unfolding low_register_of high_register_of register_of is_label decimal_of hexadecimal_of number_of register_at
    next_register_at number_at immediate_at next_immediate_at target_of target_at tokens fault_of move_form three_form
    compare_form accumulate_form load_form transfer_form access_form half_form branch_form form_of arm_statement
    compute_of compare_of other_of long_base mnemonic_of with_tail long_name three_name arm_name least_turn_from
    least_turn shift_name_of shift_name_at shifted_by shifted_as register_operand second_at next_second_at operation_at
    condition_of condition_first suffix_of number_distance register_distance distance_at after_access past_bracket
    indexed in_brackets address_at directive_of are_items count_words arm_word item_bytes items_bytes statement_bytes
    place_after split_label directive_form statement_of line_says label_of size_of line_bytes encoding
line-4 = record { label = refl; place = refl; bytes = refl }

line-5 : IsRow 5 16 (plain (codes "        ldr r0, mode") 3852402748)
unfolding low_register_of high_register_of register_of is_label decimal_of hexadecimal_of number_of register_at
    next_register_at number_at immediate_at next_immediate_at target_of target_at tokens fault_of move_form three_form
    compare_form accumulate_form load_form transfer_form access_form half_form branch_form form_of arm_statement
    compute_of compare_of other_of long_base mnemonic_of with_tail long_name three_name arm_name least_turn_from
    least_turn shift_name_of shift_name_at shifted_by shifted_as register_operand second_at next_second_at operation_at
    condition_of condition_first suffix_of number_distance register_distance distance_at after_access past_bracket
    indexed in_brackets address_at directive_of are_items count_words arm_word item_bytes items_bytes statement_bytes
    place_after split_label directive_form statement_of line_says label_of size_of line_bytes encoding
line-5 = record { label = refl; place = refl; bytes = refl }

line-6 : IsRow 6 20 (plain (codes "        strh r0, [r5, #0x28]") 3787784888)
unfolding low_register_of high_register_of register_of is_label decimal_of hexadecimal_of number_of register_at
    next_register_at number_at immediate_at next_immediate_at target_of target_at tokens fault_of move_form three_form
    compare_form accumulate_form load_form transfer_form access_form half_form branch_form form_of arm_statement
    compute_of compare_of other_of long_base mnemonic_of with_tail long_name three_name arm_name least_turn_from
    least_turn shift_name_of shift_name_at shifted_by shifted_as register_operand second_at next_second_at operation_at
    condition_of condition_first suffix_of number_distance register_distance distance_at after_access past_bracket
    indexed in_brackets address_at directive_of are_items count_words arm_word item_bytes items_bytes statement_bytes
    place_after split_label directive_form statement_of line_says label_of size_of line_bytes encoding
line-6 = record { label = refl; place = refl; bytes = refl }

line-7 : IsRow 7 24 (plain (codes "        ldr r6, seed") 3852427332)
unfolding low_register_of high_register_of register_of is_label decimal_of hexadecimal_of number_of register_at
    next_register_at number_at immediate_at next_immediate_at target_of target_at tokens fault_of move_form three_form
    compare_form accumulate_form load_form transfer_form access_form half_form branch_form form_of arm_statement
    compute_of compare_of other_of long_base mnemonic_of with_tail long_name three_name arm_name least_turn_from
    least_turn shift_name_of shift_name_at shifted_by shifted_as register_operand second_at next_second_at operation_at
    condition_of condition_first suffix_of number_distance register_distance distance_at after_access past_bracket
    indexed in_brackets address_at directive_of are_items count_words arm_word item_bytes items_bytes statement_bytes
    place_after split_label directive_form statement_of line_says label_of size_of line_bytes encoding
line-7 = record { label = refl; place = refl; bytes = refl }

line-8 : IsRow 8 28 (plain (codes "        ldr r7, factor") 3852431416)
unfolding low_register_of high_register_of register_of is_label decimal_of hexadecimal_of number_of register_at
    next_register_at number_at immediate_at next_immediate_at target_of target_at tokens fault_of move_form three_form
    compare_form accumulate_form load_form transfer_form access_form half_form branch_form form_of arm_statement
    compute_of compare_of other_of long_base mnemonic_of with_tail long_name three_name arm_name least_turn_from
    least_turn shift_name_of shift_name_at shifted_by shifted_as register_operand second_at next_second_at operation_at
    condition_of condition_first suffix_of number_distance register_distance distance_at after_access past_bracket
    indexed in_brackets address_at directive_of are_items count_words arm_word item_bytes items_bytes statement_bytes
    place_after split_label directive_form statement_of line_says label_of size_of line_bytes encoding
line-8 = record { label = refl; place = refl; bytes = refl }

line-9 : IsRow 9 32 (plain (codes "        ldr r8, adder") 3852435512)
unfolding low_register_of high_register_of register_of is_label decimal_of hexadecimal_of number_of register_at
    next_register_at number_at immediate_at next_immediate_at target_of target_at tokens fault_of move_form three_form
    compare_form accumulate_form load_form transfer_form access_form half_form branch_form form_of arm_statement
    compute_of compare_of other_of long_base mnemonic_of with_tail long_name three_name arm_name least_turn_from
    least_turn shift_name_of shift_name_at shifted_by shifted_as register_operand second_at next_second_at operation_at
    condition_of condition_first suffix_of number_distance register_distance distance_at after_access past_bracket
    indexed in_brackets address_at directive_of are_items count_words arm_word item_bytes items_bytes statement_bytes
    place_after split_label directive_form statement_of line_says label_of size_of line_bytes encoding
line-9 = record { label = refl; place = refl; bytes = refl }

line-10 : IsRow 10 36 (labelled (codes "again") (codes "again:  mla r9, r6, r7, r8") 3760818070)
unfolding low_register_of high_register_of register_of is_label decimal_of hexadecimal_of number_of register_at
    next_register_at number_at immediate_at next_immediate_at target_of target_at tokens fault_of move_form three_form
    compare_form accumulate_form load_form transfer_form access_form half_form branch_form form_of arm_statement
    compute_of compare_of other_of long_base mnemonic_of with_tail long_name three_name arm_name least_turn_from
    least_turn shift_name_of shift_name_at shifted_by shifted_as register_operand second_at next_second_at operation_at
    condition_of condition_first suffix_of number_distance register_distance distance_at after_access past_bracket
    indexed in_brackets address_at directive_of are_items count_words arm_word item_bytes items_bytes statement_bytes
    place_after split_label directive_form statement_of line_says label_of size_of line_bytes encoding
line-10 = record { label = refl; place = refl; bytes = refl }

line-11 : IsRow 11 40 (plain (codes "        mov r6, r9") 3785383945)
unfolding low_register_of high_register_of register_of is_label decimal_of hexadecimal_of number_of register_at
    next_register_at number_at immediate_at next_immediate_at target_of target_at tokens fault_of move_form three_form
    compare_form accumulate_form load_form transfer_form access_form half_form branch_form form_of arm_statement
    compute_of compare_of other_of long_base mnemonic_of with_tail long_name three_name arm_name least_turn_from
    least_turn shift_name_of shift_name_at shifted_by shifted_as register_operand second_at next_second_at operation_at
    condition_of condition_first suffix_of number_distance register_distance distance_at after_access past_bracket
    indexed in_brackets address_at directive_of are_items count_words arm_word item_bytes items_bytes statement_bytes
    place_after split_label directive_form statement_of line_says label_of size_of line_bytes encoding
line-11 = record { label = refl; place = refl; bytes = refl }

line-12 : IsRow 12 44 (plain (codes "        mov r0, r6, lsr #16") 3785361446)
unfolding low_register_of high_register_of register_of is_label decimal_of hexadecimal_of number_of register_at
    next_register_at number_at immediate_at next_immediate_at target_of target_at tokens fault_of move_form three_form
    compare_form accumulate_form load_form transfer_form access_form half_form branch_form form_of arm_statement
    compute_of compare_of other_of long_base mnemonic_of with_tail long_name three_name arm_name least_turn_from
    least_turn shift_name_of shift_name_at shifted_by shifted_as register_operand second_at next_second_at operation_at
    condition_of condition_first suffix_of number_distance register_distance distance_at after_access past_bracket
    indexed in_brackets address_at directive_of are_items count_words arm_word item_bytes items_bytes statement_bytes
    place_after split_label directive_form statement_of line_says label_of size_of line_bytes encoding
line-12 = record { label = refl; place = refl; bytes = refl }

line-13 : IsRow 13 48 (plain (codes "        strh r0, [r5, #0x2a]") 3787784890)
unfolding low_register_of high_register_of register_of is_label decimal_of hexadecimal_of number_of register_at
    next_register_at number_at immediate_at next_immediate_at target_of target_at tokens fault_of move_form three_form
    compare_form accumulate_form load_form transfer_form access_form half_form branch_form form_of arm_statement
    compute_of compare_of other_of long_base mnemonic_of with_tail long_name three_name arm_name least_turn_from
    least_turn shift_name_of shift_name_at shifted_by shifted_as register_operand second_at next_second_at operation_at
    condition_of condition_first suffix_of number_distance register_distance distance_at after_access past_bracket
    indexed in_brackets address_at directive_of are_items count_words arm_word item_bytes items_bytes statement_bytes
    place_after split_label directive_form statement_of line_says label_of size_of line_bytes encoding
line-13 = record { label = refl; place = refl; bytes = refl }

line-14 : IsRow 14 52 (labelled (codes "hold") (codes "hold:   ldrh r0, [r5, #0x28]") 3788833464)
unfolding low_register_of high_register_of register_of is_label decimal_of hexadecimal_of number_of register_at
    next_register_at number_at immediate_at next_immediate_at target_of target_at tokens fault_of move_form three_form
    compare_form accumulate_form load_form transfer_form access_form half_form branch_form form_of arm_statement
    compute_of compare_of other_of long_base mnemonic_of with_tail long_name three_name arm_name least_turn_from
    least_turn shift_name_of shift_name_at shifted_by shifted_as register_operand second_at next_second_at operation_at
    condition_of condition_first suffix_of number_distance register_distance distance_at after_access past_bracket
    indexed in_brackets address_at directive_of are_items count_words arm_word item_bytes items_bytes statement_bytes
    place_after split_label directive_form statement_of line_says label_of size_of line_bytes encoding
line-14 = record { label = refl; place = refl; bytes = refl }

line-15 : IsRow 15 56 (plain (codes "        tst r0, #0x80") 3809476736)
unfolding low_register_of high_register_of register_of is_label decimal_of hexadecimal_of number_of register_at
    next_register_at number_at immediate_at next_immediate_at target_of target_at tokens fault_of move_form three_form
    compare_form accumulate_form load_form transfer_form access_form half_form branch_form form_of arm_statement
    compute_of compare_of other_of long_base mnemonic_of with_tail long_name three_name arm_name least_turn_from
    least_turn shift_name_of shift_name_at shifted_by shifted_as register_operand second_at next_second_at operation_at
    condition_of condition_first suffix_of number_distance register_distance distance_at after_access past_bracket
    indexed in_brackets address_at directive_of are_items count_words arm_word item_bytes items_bytes statement_bytes
    place_after split_label directive_form statement_of line_says label_of size_of line_bytes encoding
line-15 = record { label = refl; place = refl; bytes = refl }

line-16 : IsRow 16 60 (plain (codes "        bne hold") 452984828)
unfolding low_register_of high_register_of register_of is_label decimal_of hexadecimal_of number_of register_at
    next_register_at number_at immediate_at next_immediate_at target_of target_at tokens fault_of move_form three_form
    compare_form accumulate_form load_form transfer_form access_form half_form branch_form form_of arm_statement
    compute_of compare_of other_of long_base mnemonic_of with_tail long_name three_name arm_name least_turn_from
    least_turn shift_name_of shift_name_at shifted_by shifted_as register_operand second_at next_second_at operation_at
    condition_of condition_first suffix_of number_distance register_distance distance_at after_access past_bracket
    indexed in_brackets address_at directive_of are_items count_words arm_word item_bytes items_bytes statement_bytes
    place_after split_label directive_form statement_of line_says label_of size_of line_bytes encoding
line-16 = record { label = refl; place = refl; bytes = refl }

line-17 : IsRow 17 64 (plain (codes "        tst r0, #8") 3809476616)
unfolding low_register_of high_register_of register_of is_label decimal_of hexadecimal_of number_of register_at
    next_register_at number_at immediate_at next_immediate_at target_of target_at tokens fault_of move_form three_form
    compare_form accumulate_form load_form transfer_form access_form half_form branch_form form_of arm_statement
    compute_of compare_of other_of long_base mnemonic_of with_tail long_name three_name arm_name least_turn_from
    least_turn shift_name_of shift_name_at shifted_by shifted_as register_operand second_at next_second_at operation_at
    condition_of condition_first suffix_of number_distance register_distance distance_at after_access past_bracket
    indexed in_brackets address_at directive_of are_items count_words arm_word item_bytes items_bytes statement_bytes
    place_after split_label directive_form statement_of line_says label_of size_of line_bytes encoding
line-17 = record { label = refl; place = refl; bytes = refl }

line-18 : IsRow 18 68 (plain (codes "        beq hold") 184549370)
unfolding low_register_of high_register_of register_of is_label decimal_of hexadecimal_of number_of register_at
    next_register_at number_at immediate_at next_immediate_at target_of target_at tokens fault_of move_form three_form
    compare_form accumulate_form load_form transfer_form access_form half_form branch_form form_of arm_statement
    compute_of compare_of other_of long_base mnemonic_of with_tail long_name three_name arm_name least_turn_from
    least_turn shift_name_of shift_name_at shifted_by shifted_as register_operand second_at next_second_at operation_at
    condition_of condition_first suffix_of number_distance register_distance distance_at after_access past_bracket
    indexed in_brackets address_at directive_of are_items count_words arm_word item_bytes items_bytes statement_bytes
    place_after split_label directive_form statement_of line_says label_of size_of line_bytes encoding
line-18 = record { label = refl; place = refl; bytes = refl }

line-19 : IsRow 19 72 (plain (codes "        ldr r0, go") 3852402696)
unfolding low_register_of high_register_of register_of is_label decimal_of hexadecimal_of number_of register_at
    next_register_at number_at immediate_at next_immediate_at target_of target_at tokens fault_of move_form three_form
    compare_form accumulate_form load_form transfer_form access_form half_form branch_form form_of arm_statement
    compute_of compare_of other_of long_base mnemonic_of with_tail long_name three_name arm_name least_turn_from
    least_turn shift_name_of shift_name_at shifted_by shifted_as register_operand second_at next_second_at operation_at
    condition_of condition_first suffix_of number_distance register_distance distance_at after_access past_bracket
    indexed in_brackets address_at directive_of are_items count_words arm_word item_bytes items_bytes statement_bytes
    place_after split_label directive_form statement_of line_says label_of size_of line_bytes encoding
line-19 = record { label = refl; place = refl; bytes = refl }

line-20 : IsRow 20 76 (plain (codes "        strh r0, [r5, #0x28]") 3787784888)
unfolding low_register_of high_register_of register_of is_label decimal_of hexadecimal_of number_of register_at
    next_register_at number_at immediate_at next_immediate_at target_of target_at tokens fault_of move_form three_form
    compare_form accumulate_form load_form transfer_form access_form half_form branch_form form_of arm_statement
    compute_of compare_of other_of long_base mnemonic_of with_tail long_name three_name arm_name least_turn_from
    least_turn shift_name_of shift_name_at shifted_by shifted_as register_operand second_at next_second_at operation_at
    condition_of condition_first suffix_of number_distance register_distance distance_at after_access past_bracket
    indexed in_brackets address_at directive_of are_items count_words arm_word item_bytes items_bytes statement_bytes
    place_after split_label directive_form statement_of line_says label_of size_of line_bytes encoding
line-20 = record { label = refl; place = refl; bytes = refl }

line-21 : IsRow 21 80 (plain (codes "        b again") 3942645747)
unfolding low_register_of high_register_of register_of is_label decimal_of hexadecimal_of number_of register_at
    next_register_at number_at immediate_at next_immediate_at target_of target_at tokens fault_of move_form three_form
    compare_form accumulate_form load_form transfer_form access_form half_form branch_form form_of arm_statement
    compute_of compare_of other_of long_base mnemonic_of with_tail long_name three_name arm_name least_turn_from
    least_turn shift_name_of shift_name_at shifted_by shifted_as register_operand second_at next_second_at operation_at
    condition_of condition_first suffix_of number_distance register_distance distance_at after_access past_bracket
    indexed in_brackets address_at directive_of are_items count_words arm_word item_bytes items_bytes statement_bytes
    place_after split_label directive_form statement_of line_says label_of size_of line_bytes encoding
line-21 = record { label = refl; place = refl; bytes = refl }

line-22 : IsRow 22 84 (labelled (codes "mode") (codes "mode:   .word 0x2003") 8195)
unfolding low_register_of high_register_of register_of is_label decimal_of hexadecimal_of number_of register_at
    next_register_at number_at immediate_at next_immediate_at target_of target_at tokens fault_of move_form three_form
    compare_form accumulate_form load_form transfer_form access_form half_form branch_form form_of arm_statement
    compute_of compare_of other_of long_base mnemonic_of with_tail long_name three_name arm_name least_turn_from
    least_turn shift_name_of shift_name_at shifted_by shifted_as register_operand second_at next_second_at operation_at
    condition_of condition_first suffix_of number_distance register_distance distance_at after_access past_bracket
    indexed in_brackets address_at directive_of are_items count_words arm_word item_bytes items_bytes statement_bytes
    place_after split_label directive_form statement_of line_says label_of size_of line_bytes encoding
line-22 = record { label = refl; place = refl; bytes = refl }

line-23 : IsRow 23 88 (labelled (codes "go") (codes "go:     .word 0x2083") 8323)
unfolding low_register_of high_register_of register_of is_label decimal_of hexadecimal_of number_of register_at
    next_register_at number_at immediate_at next_immediate_at target_of target_at tokens fault_of move_form three_form
    compare_form accumulate_form load_form transfer_form access_form half_form branch_form form_of arm_statement
    compute_of compare_of other_of long_base mnemonic_of with_tail long_name three_name arm_name least_turn_from
    least_turn shift_name_of shift_name_at shifted_by shifted_as register_operand second_at next_second_at operation_at
    condition_of condition_first suffix_of number_distance register_distance distance_at after_access past_bracket
    indexed in_brackets address_at directive_of are_items count_words arm_word item_bytes items_bytes statement_bytes
    place_after split_label directive_form statement_of line_says label_of size_of line_bytes encoding
line-23 = record { label = refl; place = refl; bytes = refl }

line-24 : IsRow 24 92 (labelled (codes "factor") (codes "factor: .word 1664525") 1664525)
unfolding low_register_of high_register_of register_of is_label decimal_of hexadecimal_of number_of register_at
    next_register_at number_at immediate_at next_immediate_at target_of target_at tokens fault_of move_form three_form
    compare_form accumulate_form load_form transfer_form access_form half_form branch_form form_of arm_statement
    compute_of compare_of other_of long_base mnemonic_of with_tail long_name three_name arm_name least_turn_from
    least_turn shift_name_of shift_name_at shifted_by shifted_as register_operand second_at next_second_at operation_at
    condition_of condition_first suffix_of number_distance register_distance distance_at after_access past_bracket
    indexed in_brackets address_at directive_of are_items count_words arm_word item_bytes items_bytes statement_bytes
    place_after split_label directive_form statement_of line_says label_of size_of line_bytes encoding
line-24 = record { label = refl; place = refl; bytes = refl }

line-25 : IsRow 25 96 (labelled (codes "adder") (codes "adder:  .word 1013904223") 1013904223)
unfolding low_register_of high_register_of register_of is_label decimal_of hexadecimal_of number_of register_at
    next_register_at number_at immediate_at next_immediate_at target_of target_at tokens fault_of move_form three_form
    compare_form accumulate_form load_form transfer_form access_form half_form branch_form form_of arm_statement
    compute_of compare_of other_of long_base mnemonic_of with_tail long_name three_name arm_name least_turn_from
    least_turn shift_name_of shift_name_at shifted_by shifted_as register_operand second_at next_second_at operation_at
    condition_of condition_first suffix_of number_distance register_distance distance_at after_access past_bracket
    indexed in_brackets address_at directive_of are_items count_words arm_word item_bytes items_bytes statement_bytes
    place_after split_label directive_form statement_of line_says label_of size_of line_bytes encoding
line-25 = record { label = refl; place = refl; bytes = refl }

pub program-rows : (last : List Row) → AreRows 25 100 last → AreRows 0 0 (program_rows last)
program-rows last are = (
  line-1,
  (
    line-2,
    (
      line-3,
      (
        line-4,
        (
          line-5,
          (
            line-6,
            (
              line-7,
              (
                line-8,
                (
                  line-9,
                  (
                    line-10,
                    (
                      line-11,
                      (
                        line-12,
                        (
                          line-13,
                          (
                            line-14,
                            (
                              line-15,
                              (
                                line-16,
                                (
                                  line-17,
                                  (
                                    line-18,
                                    (line-19, (line-20, (line-21, (line-22, (line-23, (line-24, (line-25, are))))))),
                                  ),
                                ),
                              ),
                            ),
                          ),
                        ),
                      ),
                    ),
                  ),
                ),
              ),
            ),
          ),
        ),
      ),
    ),
  ),
)
