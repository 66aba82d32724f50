-- What known values are computed with: a line `unfolding recurrence` opens all that the line below
-- `recurrence` names.
use Rattle.argon2_base.specs.Block.{add_mul, by_columns, by_rows, column, gb, mix_columns, mix_diagonals, mixed, perm, row, xor_blocks, xor_rotate, zero_block}
use Rattle.argon2_base.specs.Blake2b.{blake2b, compress, hash_blocks, mix, round, rounds, words}
use Rattle.argon2.specs.Rfc9106.{address_block, address_word, block_of, columns, finished_segments, history, in_history, initial_hash, is_independent, last_block, made_block, permitted, previous, reference, reference_index, reference_lane, reference_of, reference_word, rule, segment_length_for, xor_lanes}

-- the mixing of two blocks
unfoldable pub mixing : Unit {0}
unfolding mixed by_rows by_columns column row perm mix_columns mix_diagonals gb xor_rotate add_mul xor_blocks zero_block
mixing = tt

-- the word of an address block
unfoldable pub addresses : Unit {0}
unfolding mixing address_word address_block segment_length_for
addresses = tt

-- the blocks
unfoldable pub recurrence : Unit {0}
unfolding addresses rule in_history history made_block reference_of reference_word previous is_independent reference
    reference_index reference_lane permitted finished_segments columns
recurrence = tt

-- the exclusive or over the lanes, of the last blocks too
unfoldable pub last_blocks : Unit {0}
unfolding recurrence block_of xor_lanes last_block
last_blocks = tt

-- digests, and the initial hash
unfoldable pub digests : Unit {0}
unfolding mix round rounds words compress hash_blocks blake2b initial_hash
digests = tt
