-- Values that were computed apart from these definitions, so that a definition with a wrong constant
-- or a wrong step does not check.
use Rattle.std.proofs.Common.{◌≡◌, ◌*◌, ◌^◌, List, ℕ, [], ◌∷◌, map, refl}
use Rattle.std.specs.List.{range_with_len}
use Rattle.argon2_base.specs.Block.{add_mul, by_columns, by_rows, column, gb, mix_columns, mix_diagonals, mixed, perm, row, xor_blocks, xor_rotate}

-- GB of the words 1, 2, 3 and 4
pub gb_value : gb 1 2 3 4
    ≡ (0x0000010000002d07, 0x5a0e02060e2a0606, 0x2d07000307150003, 0x2d07000001030000)
unfolding gb add_mul xor_rotate
gb_value = refl

-- P of the words 0 to 15
pub perm_value : perm (range_with_len 0 16)
    ≡ 0x3bce1ccd56d0db35 ∷ 0x92fd98e3a24f70b4 ∷ 0x3845ecf7791b8e89 ∷ 0xa920b275b5a7d5f7
    ∷ 0x60fa2a84ac4f1571 ∷ 0xa5feebc3465becf6 ∷ 0x6b1b2cd05ad5461a ∷ 0x632b8ec35cceef08
    ∷ 0xbb0c7d539613c94b ∷ 0x7ce048bb910f8c63 ∷ 0xdbf94bf83b0da4d7 ∷ 0xe70eab96511821ba
    ∷ 0xeba9f9fa9db0b60c ∷ 0x4c1d95d18ef2a267 ∷ 0xc1b8941b9bba8ba2 ∷ 0x4c1b185e3a641fc4 ∷ []
unfolding gb add_mul xor_rotate mix_columns mix_diagonals perm
perm_value = refl

-- the words 0 to 127
abbrev counted : List ℕ
counted = range_with_len 0 128

-- the counted words in the high halves
abbrev counted_high : List ℕ
counted_high = map (λ w. w * 2 ^ 32) counted

-- G of these two blocks
pub mixed_value : mixed counted counted_high
    ≡ 0x0b3c0826041b1446 ∷ 0x03fca67483aa3f65 ∷ 0xca034f899231f096 ∷ 0x715a083b538ddf65
    ∷ 0xc8939abc101e3ada ∷ 0x8776dbe8a12617a0 ∷ 0x9584b35e37711ddd ∷ 0x0a4aca33ccf98429
    ∷ 0x2533e5d3c3f51e35 ∷ 0x41d684b4a9c5e6b2 ∷ 0x3fe072509c7b530e ∷ 0x60d2c2995a189eb9
    ∷ 0x29d7166d2701b023 ∷ 0x5ab3054844978a85 ∷ 0x5e85f7a08e57bcb6 ∷ 0x5947b5723b3e2715
    ∷ 0xb86aaa684d000724 ∷ 0x10419f0b5a2c1e76 ∷ 0x7b69f250fd39bb7f ∷ 0x235e3ed0a3a23a51
    ∷ 0xbf70a20efcb0e6ce ∷ 0x88169227a8f12800 ∷ 0x014ec52d604f8021 ∷ 0x4de42a18a6d19bd5
    ∷ 0xcb66c9be8ffa567e ∷ 0xfbd3a2495f7f8384 ∷ 0x123ea25874d4f0a5 ∷ 0xe524416e4b72f2a1
    ∷ 0x42a06518832896a6 ∷ 0x1132ab8bd85ac388 ∷ 0x3aab654229dd96a8 ∷ 0xb3cf1d560c8b388e
    ∷ 0x0687176da1d8237f ∷ 0x37a1d20daf4d22a3 ∷ 0x98ac8d3c1823c726 ∷ 0x4c0a6255fb3fe1c2
    ∷ 0x9248a9a20ab9dd56 ∷ 0x3b29c2f16e62b307 ∷ 0x52976fb0d2b640e6 ∷ 0xd1afb3e54f4a9579
    ∷ 0x1a89be82aeef3485 ∷ 0x25e2b36a7f37189b ∷ 0xdfdc56ea850ea94a ∷ 0x0f845c8b266f187c
    ∷ 0x939ca3f28a6623ac ∷ 0x0a5c6de708192cd7 ∷ 0xaa8ee15b4485100e ∷ 0x5e03e08ce4fec84b
    ∷ 0x503bcea1783d5243 ∷ 0x7a23b6b95407b5d5 ∷ 0x991d86608c5453ea ∷ 0xa0644c67d646f91f
    ∷ 0xa836be276631f7b4 ∷ 0x02b45a1e5848427c ∷ 0xb579aa9d7895e0a5 ∷ 0x3a6182a375862361
    ∷ 0x3d7a842e54b9f491 ∷ 0xb975727c8e709d78 ∷ 0x2e93ee9d17afb59e ∷ 0xbf066934a1755c3e
    ∷ 0x0571dac283eaf0a6 ∷ 0x4fa34289a9b4c833 ∷ 0x5908d1f0ed0a98a7 ∷ 0xc46095b3aef0ace7
    ∷ 0xe97b9a1804bcd112 ∷ 0x227d66d5b7d90f28 ∷ 0x61dd3073154c23db ∷ 0x3ce5647649f465ca
    ∷ 0x8c10544cbecd372c ∷ 0x5abfacda59bdcc07 ∷ 0x85175207837f6755 ∷ 0x14bb5dbc9e3ab62e
    ∷ 0x2ce6be5742a5967f ∷ 0x62fff222e5c91ae4 ∷ 0x68871cc4d069b4fc ∷ 0xef6fdc280a88204c
    ∷ 0xcbf2aef0758dec47 ∷ 0x39516cc54eee6f89 ∷ 0x76a55a32548f5977 ∷ 0x7ce5f0c30e847dbb
    ∷ 0x9488f46bca70035d ∷ 0x9996327ce58d14eb ∷ 0xb44324f2c6934403 ∷ 0x3e8ce68f1e12b547
    ∷ 0x9adb501421eb765c ∷ 0xc504586caab2df91 ∷ 0x128149932db27272 ∷ 0x33c6fce6b2d2cffb
    ∷ 0x60d2b5571a1b3431 ∷ 0x6048a515e03b4354 ∷ 0xa5868cd0eb00adab ∷ 0x0ffc18a6c5c21f22
    ∷ 0xb8b6e38c5930ff42 ∷ 0x792c2347836e6d54 ∷ 0x080d47aa11ccd265 ∷ 0x0a3e3c49e9294a37
    ∷ 0xb186e90d8de0a69f ∷ 0x5c218c91f904109a ∷ 0x7b28eb814a769765 ∷ 0xf2c813d2deb2bece
    ∷ 0x0b7dd0cb7a26ae6f ∷ 0x7963a72ac2b76150 ∷ 0x930f412aa9dbfc5f ∷ 0xd7541497858bc873
    ∷ 0x16db16a530dcfec5 ∷ 0xbf7d62577c0a0633 ∷ 0xcf4ce3d742983fb4 ∷ 0xc1e21ff936f4a3ab
    ∷ 0xf0398c2fa37982b1 ∷ 0xd8ec62181df59240 ∷ 0x7892ff9caf61adb9 ∷ 0x5815ad8760c8d687
    ∷ 0x03cb8b69982ec20f ∷ 0x93a0802f6ff11f7b ∷ 0xfc61cab3e8f82b08 ∷ 0x20bfb2756b78e4fe
    ∷ 0x1e5d598e3efd6bc9 ∷ 0x72419db6d017d3a0 ∷ 0x160ee4e1a97e3210 ∷ 0x2e25e5a5a41dc063
    ∷ 0x8a22f35b74997f30 ∷ 0x7087aa76c795a6dd ∷ 0xadf5a5a178396613 ∷ 0xc33575702ca59ce7
    ∷ 0x4adafd9803222e68 ∷ 0xbcc9978fd2fe2abc ∷ 0x752432fbb0d60800 ∷ 0x0587e8ff180571f2 ∷ []
unfolding gb add_mul xor_rotate mix_columns mix_diagonals perm row column by_rows by_columns mixed xor_blocks
mixed_value = refl
