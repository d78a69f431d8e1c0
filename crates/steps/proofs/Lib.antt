mod Leaving
mod PageLaws
