-- The certificate of generators: what each of its keys is made of.
pub mod Made
