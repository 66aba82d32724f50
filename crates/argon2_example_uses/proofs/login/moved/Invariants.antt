use Rattle.std.proofs.Common.{◌≡◌, ◌≤◌}
use Rattle.argon2.specs.Login.{store_of, login_target}
use Rattle.argon2.specs.NamedTexts.{with_texts, named_values}
use Rattle.argon2.specs.TextHashing.{tag_length, target_of}
use Rattle.argon2_example_uses.proofs.Stores.{AreNew}
use Rattle.argon2_example_uses.proofs.login.moved.Given as goal

abbrev pub invariant-loop-name : goal.invariant-loop-name
invariant-loop-name l = record {
  texts : with_texts (named_values l.name-iterator) (store_of l.new) ≡ store_of l.store;
  names : AreNew (named_values l.name-iterator) (store_of l.new);
  target : login_target l.new ≡ target_of l.fn.target;
  fits : tag_length (target_of l.fn.target).settings ≤ 64;
}
