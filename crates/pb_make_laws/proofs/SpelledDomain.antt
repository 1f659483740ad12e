-- The text of the blocks domain is read as its tree.
use Rattle.std.proofs.Common.{◌≡◌, Ok, refl}
use Rattle.pb_pddl.specs.Tokens.{is_white, begins_word, goes_on_word, lower, gap_next, gap_len, run_len, kind_of, word_first, kind_inside, len_of, is_last, unclosed, token_at, opened, is_open, AreTokens}
use Rattle.pb_pddl.specs.Reading.{kind_number, same_kind, front, begins, spells, is_reserved, refusal, fault_at, left_at, need, need_word, name_at, folds, all_of, begins_term, term_of, add_term, begins_head, head_at, atom_at, add_atom, conds_at, cond_at, add_literal, negative_at, effects_at, effect_at, begins_group, type_at, close_group, group_step, list_at, add_predicate, predicates_at, begins_key, add_key, keys_at, add_fact, facts_at, unlimited, limited, once, params_part, pre_part, effect_part, part_at, parts_want, add_action, requirements_section, types_section, constants_section, predicates_section, action_section, no_section, domain_key, domain_section, title_at, end_at, domain_at, domain_name_section, problem_requirements, objects_section, init_section, goal_section, problem_key, stood_all, problem_section, sections_want, missing, there, problem_at}
use Rattle.pb_pddl.specs.Readings.{tokens_from, tokens_of, domain_reading}
use Rattle.pb_make.specs.Domain.{domain_text}
use Rattle.pb_make_laws.proofs.BlocksTree.{blocks_tree}

pub blocks_domain_is_tree : domain_reading domain_text ≡ Ok blocks_tree
unfolding kind_number same_kind front begins spells is_reserved refusal fault_at left_at need need_word name_at folds all_of begins_term term_of add_term begins_head head_at atom_at add_atom conds_at cond_at add_literal negative_at effects_at effect_at begins_group type_at close_group group_step list_at add_predicate predicates_at begins_key add_key keys_at add_fact facts_at unlimited limited once params_part pre_part effect_part part_at parts_want add_action requirements_section types_section constants_section predicates_section action_section no_section domain_key domain_section title_at end_at domain_at domain_name_section problem_requirements objects_section init_section goal_section problem_key stood_all problem_section sections_want missing there problem_at is_white begins_word goes_on_word lower gap_next gap_len run_len kind_of word_first kind_inside len_of is_last unclosed token_at opened is_open AreTokens tokens_from tokens_of domain_reading
blocks_domain_is_tree = refl
