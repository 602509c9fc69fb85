mod CopyLemmas
mod SettledLemmas
