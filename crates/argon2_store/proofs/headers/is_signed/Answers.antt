use Rattle.argon2_store.proofs.Imports.{arith, checksum, is_big}
use Rattle.sqlite_wal.proofs.FormatLemmas.{part_front, same_sums}
use Rattle.sqlite_wal.specs.Format.{be32}
use Rattle.argon2_store.proofs.headers.is_signed.Goals as goal

pub returns : goal.returns
unfolding be32
returns c = search (arith, same_sums, checksum, is_big, part_front)
