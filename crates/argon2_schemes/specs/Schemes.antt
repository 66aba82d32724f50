-- How the texts of other schemes begin.
use Rattle.std.specs.Prelude.{ℕ, ◌||◌, List, [], ◌∷◌, codes, if◌then◌else◌, Option, Some, None}
use Rattle.argon2_schemes.specs.Prefixes.{begins_any, is_named}
use Rattle.argon2_schemes.specs.declared.schemes.Scheme.{Scheme}
use Rattle.argon2_schemes.specs.declared.schemes.Scheme.TheVariants.{Bcrypt, Scrypt, Pbkdf2, Yescrypt, Sha256Crypt, Sha512Crypt, Md5Crypt, Django, Ldap}

-- the scheme of a text, by its prefix
abbrev pub scheme_of : List ℕ → Option Scheme
scheme_of text =
    if begins_any (codes "$2$" ∷ codes "$2a$" ∷ codes "$2b$" ∷ codes "$2x$" ∷ codes "$2y$" ∷ []) text
    || begins_any (codes "bcrypt$" ∷ codes "bcrypt_sha256$" ∷ []) text then Some Bcrypt
    else if begins_any (codes "$7$" ∷ codes "$scrypt$" ∷ []) text
    || is_named (codes "scrypt") (codes "$" ∷ codes ":" ∷ []) text then Some Scrypt
    else if begins_any (codes "$pbkdf2$" ∷ codes "$pbkdf2-" ∷ codes "{PBKDF2}" ∷ codes "{PBKDF2-" ∷ []) text
    || is_named (codes "pbkdf2") (codes "$" ∷ codes ":" ∷ codes "_" ∷ []) text then Some Pbkdf2
    else if begins_any (codes "$y$" ∷ codes "$gy$" ∷ []) text then Some Yescrypt
    else if begins_any (codes "$5$" ∷ []) text then Some Sha256Crypt
    else if begins_any (codes "$6$" ∷ []) text then Some Sha512Crypt
    else if begins_any (codes "$1$" ∷ codes "$apr1$" ∷ []) text then Some Md5Crypt
    else if begins_any (codes "md5$" ∷ codes "sha1$" ∷ []) text then Some Django
    else if begins_any (codes "{MD5}" ∷ codes "{SMD5}" ∷ codes "{SHA}" ∷ codes "{SSHA}" ∷ []) text
    || begins_any (codes "{SHA1" ∷ codes "{SHA2" ∷ codes "{SHA3" ∷ codes "{SHA5" ∷ []) text
    || begins_any (codes "{SSHA2" ∷ codes "{SSHA3" ∷ codes "{SSHA5" ∷ []) text then Some Ldap
    else None

-- the scheme's name, as the programs print it
abbrev pub scheme_name : Scheme → List ℕ
scheme_name Bcrypt = codes "bcrypt"
scheme_name Scrypt = codes "scrypt"
scheme_name Pbkdf2 = codes "PBKDF2"
scheme_name Yescrypt = codes "yescrypt"
scheme_name Sha256Crypt = codes "sha256crypt"
scheme_name Sha512Crypt = codes "sha512crypt"
scheme_name Md5Crypt = codes "md5crypt"
scheme_name Django = codes "Django digest"
scheme_name Ldap = codes "LDAP digest"
