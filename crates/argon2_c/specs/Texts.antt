-- The texts of argon2.h's library: what a text says, and the one spelling of what it says.
use Rattle.std.specs.Prelude.{◌≡◌, ℕ, ◌<◌, ◌^◌, ◌==◌, nat_le, nat_lt, ◌&&◌, ℤ, length, if◌then◌else◌, List, ◌∷◌, ◌++◌, codes, Option, Some, None, IfSome, unwrap_or}
use Rattle.std.specs.Fmt.{decimal}
use Rattle.base64.specs.Decode.{IsWrittenOver}
use Rattle.argon2_base.specs.Texts.{IsBytes, strict_base64}
use Rattle.argon2_c.specs.declared.code.TheConstants.{ENCODING_FAIL, OK}
use Rattle.argon2_c.specs.declared.decode.Shown.{Shown}
use Rattle.argon2_c.specs.declared.request.Request.{Request}

-- what a text says, besides the name
pub record Said : Type 0 where
  pub version : Option ℕ
  pub m_cost : ℕ
  pub t_cost : ℕ
  pub lanes : ℕ
  pub salt : List ℕ
  pub tag : List ℕ

-- the numbers have 32 bits, and salt and tag are bytes
pub record IsSaid (v : Said) : Type 0 where
  pub small_version : IfSome v.version (λ n. n < 2 ^ 32)
  pub small_m_cost : v.m_cost < 2 ^ 32
  pub small_t_cost : v.t_cost < 2 ^ 32
  pub small_lanes : v.lanes < 2 ^ 32
  pub salt_bytes : IsBytes v.salt
  pub tag_bytes : IsBytes v.tag

-- a version, costs, a salt and a tag
abbrev pub said_of : Option ℕ → ℕ → ℕ → ℕ → List ℕ → List ℕ → Said
said_of version m t p salt tag = record {
  version = version;
  m_cost = m;
  t_cost = t;
  lanes = p;
  salt = salt;
  tag = tag;
}

-- the name of the variant of a number up to 2
abbrev pub name_numbered : ℕ → List ℕ
name_numbered number = if number == 0 then codes "argon2d"
    else if number == 1 then codes "argon2i" else codes "argon2id"

-- the text of the version, if there is one, and what follows it
abbrev pub version_part : Option ℕ → List ℕ → List ℕ
version_part None more = more
version_part (Some n) more = codes "v=" ++ (decimal n ++ 36 ∷ more)

-- the text of the costs, and what follows it
abbrev pub costs_part : ℕ → ℕ → ℕ → List ℕ → List ℕ
costs_part m t p more =
    codes "m=" ++ (decimal m ++ (codes ",t=" ++ (decimal t ++ (codes ",p=" ++ (decimal p ++ 36 ∷ more)))))

-- `$NAME$v=V$m=M,t=T,p=P$SALT$TAG`, with salt and tag as they stand here
abbrev pub plain_spelling : List ℕ → Said → List ℕ
plain_spelling name v =
    36 ∷ (name ++ 36 ∷ version_part v.version
    (costs_part v.m_cost v.t_cost v.lanes (v.salt ++ 36 ∷ v.tag)))

-- the same with salt and tag in Base64
abbrev pub in_base64 : Said → Said
in_base64 v = record v { salt = strict_base64 v.salt; tag = strict_base64 v.tag }

-- the text of a value
abbrev pub spelling : List ℕ → Said → List ℕ
spelling name v = plain_spelling name (in_base64 v)

-- the text of these numbers, a salt and a tag
abbrev pub hash_text : ℕ → ℕ → ℕ → ℕ → ℕ → List ℕ → List ℕ → List ℕ
hash_text algorithm version m t p salt tag = spelling (name_numbered algorithm) (said_of (Some version) m t p salt tag)

-- the text of a request's numbers, a salt and a tag
abbrev pub text_asked : Request → List ℕ → List ℕ → List ℕ
text_asked r salt tag = hash_text r.algorithm r.version r.m_cost r.t_cost r.lanes salt tag

-- the code of writing a text and a zero byte into `room` bytes
abbrev pub encode_code : ℕ → List ℕ → ℕ → ℤ
encode_code algorithm text room = if nat_le algorithm 2 && nat_lt (length text) room then OK else ENCODING_FAIL

-- the text is a text of the variant with this number, and says v
abbrev pub Says : ℕ → List ℕ → Said → Type 0
Says algorithm text v = IsSaid v × (text ≡ spelling (name_numbered algorithm) v)

-- the structure shows what a text says, except for the bytes of its salt and its tag
pub record IsShown (v : Said) (shown : Shown) : Type 0 where
  pub version : shown.version ≡ unwrap_or v.version 16
  pub m_cost : shown.m_cost ≡ v.m_cost
  pub t_cost : shown.t_cost ≡ v.t_cost
  pub lanes : shown.lanes ≡ v.lanes
  pub salt : shown.salt ≡ length v.salt
  pub tag : shown.tag ≡ length v.tag

-- Whatever text ends at the index `at`, `more` is written after it, up to the index `end`, and nothing else changes.
abbrev pub WritesAfter : ℕ → List ℕ → List ℕ → List ℕ → ℕ → Type 0
WritesAfter at more old new end = (text first : List ℕ) → length text ≡ at → IsWrittenOver text first old
    → (length (text ++ more) ≡ end) × IsWrittenOver (text ++ more) first new
