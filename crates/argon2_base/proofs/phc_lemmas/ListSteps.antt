-- What the functions on lists cite.
use Rattle.std.proofs.lemmas.Slice.Eq.{bytes_eq-Decides}
use Rattle.std.proofs.lemmas.Str.{IsCharBoundary-after_ascii}
use Rattle.argon2_base.proofs.phc_lemmas.Base64Lemmas.{length-strict_base64}
use Rattle.argon2_base.proofs.phc_lemmas.Equalities.{pairs_eq-Decides}
use Rattle.argon2_base.proofs.phc_lemmas.ParamsReading.{good_items, long_value, one_list, parts_again, read_again, read_list}
use Rattle.argon2_base.proofs.phc_lemmas.ParamsTextLemmas.{all_params, are_params-more, more_again, pair_again, pair_of_name, refused_name, refused_param}
use Rattle.argon2_base.proofs.phc_lemmas.Separators.{slice_split-lacks}

-- what a list's text says
pub ruleset list_reads = (
  all_params,
  parts_again,
  good_items,
  read_list,
  read_again,
  one_list,
  bytes_eq-Decides,
  pairs_eq-Decides,
)

-- a list with one parameter more
pub ruleset list_grows = (are_params-more, more_again, refused_name, refused_param, long_value, length-strict_base64)

-- where a text is cut
pub ruleset list_cuts = (pair_again, pair_of_name, slice_split-lacks, IsCharBoundary-after_ascii)

pub ruleset list_steps = (list_reads, list_grows, list_cuts)
