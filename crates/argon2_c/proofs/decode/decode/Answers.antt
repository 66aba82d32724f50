use Rattle.std.proofs.Common.{◌≡◌, ◌-◌, length, arith, refl, sym, ap, ◌∙◌, subst}
use Rattle.std.specs.Prelude.{unwrap_or}
use Rattle.std.specs.Str.{IsUtf8}
use Rattle.argon2.specs.Settings.{algorithm_name, algorithm_number}
use Rattle.argon2.specs.declared.algorithm.Algorithm.{Algorithm}
use Rattle.argon2_c.specs.Texts.{IsSaid, Said, name_numbered, said_of}
use Rattle.argon2_c.proofs.Appending.{IsWrittenOver-append}
use Rattle.argon2_c.proofs.Utf8.{IsUtf8-spelling}
use Rattle.argon2_c.proofs.decode.decode.Goals as goal

-- the name of a variant is the name of its number
algorithm_name-numbered : (algorithm : Algorithm) → algorithm_name algorithm ≡ name_numbered (algorithm_number algorithm)
algorithm_name-numbered algorithm = grind arith

pub returns-in_default-clause-only : goal.returns-in_default-clause-only
returns-in_default-clause-only c = λ v says.
    let name = rw (c.as_str-name.ensures, algorithm_name-numbered c.args.algorithm) at c.as_str-name.utf8 in
    absurd (c.in_default.ensures.cases.0 (subst IsUtf8 (sym says.1) (IsUtf8-spelling _ v name says.0)))

pub returns-clause-found : goal.returns-clause-found
returns-clause-found c =
    let n = c.in_ok-salt.salt in
    let parts = c.in_ok-version in
    let salt = c.in_ok-salt.ensures.found in
    let tag = c.in_ok-tag.ensures.found in
    let small = parts.ensures.numbers in
    let v = said_of parts.version parts.m_cost parts.t_cost parts.lanes salt.0 tag.0 in
    let said : IsSaid v = record {
      small_version = small.0;
      small_m_cost = small.1;
      small_t_cost = small.2;
      small_lanes = small.3;
      salt_bytes = salt.1;
      tag_bytes = tag.1;
    } in
    let name = c.as_str-name.ensures ∙ algorithm_name-numbered c.args.algorithm in
    let text = sym c.in-Ok.ensures.cases.0 ∙ rw (name, salt.2, tag.2) at parts.ensures.found in (
      v,
      (said, text),
      record { version = c.unwrap_or.ensures; m_cost = refl; t_cost = refl; lanes = refl; salt = salt.3; tag = tag.3 },
      IsWrittenOver-append n (length c.bytes.new.out - n) c.bytes.new.out c.bytes-2.new.out tag.0 salt.0 c.args.room.now
          refl (sym salt.3) salt.4 tag.4,
    )

pub returns-clause-only : goal.returns-clause-only
returns-clause-only c = λ v says.
    let n = c.in_ok-salt.salt in
    let name = c.as_str-name.ensures ∙ algorithm_name-numbered c.args.algorithm in
    let parts = c.in_ok-version.ensures.only v says.0 (rw name (c.in-Ok.ensures.cases.0 ∙ says.1)) in
    let salt = c.in_ok-salt.ensures.only v.salt says.0.salt_bytes (ap (λ (x : Said). x.salt) parts) in
    let tag = c.in_ok-tag.ensures.only v.tag says.0.tag_bytes (ap (λ (x : Said). x.tag) parts) in (
      record {
        version = c.unwrap_or.ensures ∙ ap (λ (x : Said). unwrap_or x.version 16) parts;
        m_cost = ap (λ (x : Said). x.m_cost) parts;
        t_cost = ap (λ (x : Said). x.t_cost) parts;
        lanes = ap (λ (x : Said). x.lanes) parts;
        salt = salt.0;
        tag = tag.0;
      },
      IsWrittenOver-append n (length c.bytes.new.out - n) c.bytes.new.out c.bytes-2.new.out v.tag v.salt c.args.room.now
          refl (sym salt.0) salt.1 tag.1,
    )
