use Rattle.std.proofs.Common.{◌++◌, replicate}
use Rattle.std.proofs.Math.ListN.{drop}
use Rattle.argon2_store.proofs.Imports.{◌∙◌, ap}
use Rattle.std.proofs.lemmas.List.{drop-replicate}
use Rattle.argon2_store.specs.declared.database.TheConstants.{FIRST}
use Rattle.argon2_store.specs.Making.{first_page}
use Rattle.argon2_store.proofs.database.first_page.Goals as goal

pub returns : goal.returns
unfolding first_page
returns c =
    ap (λ begun. begun ++ drop 106 (replicate 4096 0)) c.copy_from_slice.ensures.after
    ∙ ap (λ rest. FIRST ++ rest) (drop-replicate 106 4096 0)
