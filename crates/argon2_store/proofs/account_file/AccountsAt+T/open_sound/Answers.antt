use Rattle.argon2_store.proofs.account_file.AccountsAt+T.open_sound.Goals as goal

pub returns-in-Ok : goal.returns-in-Ok
returns-in-Ok g c =
    let (log, db) = c.in_ok-files.ensures.fresh in rw (log.0, log.1, db.0, db.1) at c.in-Ok.ensures.ready

pub open_sound_from-requires-clause-sound : goal.open_sound_from-requires-clause-sound
open_sound_from-requires-clause-sound g c clean = let (log, db) =
    c.in_ok-files.ensures.fresh in rw (log.0, log.1, db.0, db.1) c.requires
