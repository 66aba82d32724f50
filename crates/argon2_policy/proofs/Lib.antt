mod AdmittingLemmas
mod DenyingLemmas
mod VerifyingLemmas
